-- Weights, and the products of draws and weights on the two sides of an update.
use Rattle.std.proofs.Common.{inl, inr, ◌≡◌, ℕ, ◌+◌, ◌-◌, ◌*◌, ◌/◌, ◌^◌, ◌<◌, ◌≤◌, Bool, true, false, not, cond, List, length, get_or, set, refl, ap, sym, ◌∙◌, subst, arith}
use Rattle.std.specs.Prelude.{nat_lt, max, pos, ◌+ℤ◌}
use Rattle.std.proofs.Math.Nat.{pow-zero, mul-le-mul_left, le_of_mul-le-mul_left}
use Rattle.std.proofs.lemmas.Bool.{cases_lt, cases_Bool}
use Rattle.std.proofs.lemmas.Int.{ints}
use Rattle.std.proofs.lemmas.Nat.{pow-add}
use Rattle.std.proofs.lemmas.List.{set-get_or, length-set}
use Rattle.finite_chance.specs.Chains.{AreNear}
use Rattle.spin_model.specs.Couplings.{Bonds}
use Rattle.spin_model.specs.Lattice.{IsLawfulSize, volume, bond_count}
use Rattle.spin_model.specs.SiteRule.{Rule, HeatBath, Metropolis, new_spin, is_flipped}
use Rattle.spin_model.specs.Steps.{count_below}
use Rattle.scalar_rule.specs.Neighbours.{spin, agree, aligned, satisfied}
use Rattle.scalar_rule.specs.Sums.{is_unsatisfied, unsatisfied, energy}
use Rattle.scalar_rule.specs.Sweep.{Dynamics}
use Rattle.scalar_rule.proofs.BondCounts.{satisfied-up, satisfied-down}
use Rattle.scalar_rule.proofs.HalfSweeps.{updated}
use Rattle.model_laws.specs.Energies.{turned}
use Rattle.model_laws.specs.Weights.{weight}
use Rattle.model_laws.specs.Balance.{site_weight, IsMetropolisThreshold, IsHeatBathThreshold, updated_by, turns, turning_draws, keeping_draws, weight_of, more_satisfied, Balances, IsExactAt}
use Rattle.spin_model.proofs.Counts.{count-most}
use Rattle.model_laws.proofs.Turning.{spin-turned, aligned-turned, satisfied-turned, unsatisfied-turned}
use Rattle.model_laws.proofs.DrawCounts.{count-same, count-less, count-others, flips-all, flips-some, update-writes, update-spin}

-- ---- weights

pub unsatisfied-small : (l : ℕ) (bonds : Bonds) (spins : List Bool) → unsatisfied l bonds spins ≤ bond_count l
unsatisfied-small l bonds spins = count-most (is_unsatisfied l bonds spins) (bond_count l)

-- m pairs of unsatisfied bonds more
powers-more : (a b n u v m : ℕ) → v ≡ u + m → v ≤ n → a ^ v * b ^ (n - v) * b ^ m ≡ a ^ u * b ^ (n - u) * a ^ m
powers-more a b n u v m more within =
    let first : a ^ v ≡ a ^ u * a ^ m = ap (λ k. a ^ k) more ∙ pow-add a u m in
    let rest : n - u ≡ n - v + m = omega arith in
    let second : b ^ (n - u) ≡ b ^ (n - v) * b ^ m = ap (λ k. b ^ k) rest ∙ pow-add b (n - v) m in
    rw (first, second) (omega arith)

pub weights-ratio : (a b l : ℕ) (bonds : Bonds) (s t : List Bool) (m : ℕ) → energy l bonds t ≡ energy l bonds s +ℤ pos (4 * m)
    → weight a b l bonds t * b ^ m ≡ weight a b l bonds s * a ^ m
weights-ratio a b l bonds s t m gap =
    let more : unsatisfied l bonds t ≡ unsatisfied l bonds s + 2 * m = omega (arith, ints) in
    let small = unsatisfied-small l bonds t in
    powers-more a b (bond_count l) (unsatisfied l bonds s / 2) (unsatisfied l bonds t / 2) m (omega arith) (omega arith)

-- the weights of two configurations that differ at a site are those of its two spins, times one factor
pub record ShareFactor (a b k w v : ℕ) : Type 0 where
  pub factor : ℕ
  pub one : w ≡ factor * site_weight a b k
  pub other : v ≡ factor * site_weight a b (6 - k)

factor-more : (a b n u v k : ℕ) → v + 3 ≡ u + k → 3 ≤ k → k ≤ 6 → v ≤ n → ShareFactor a b k (a ^ u * b ^ (n - u)) (a ^ v * b ^ (n - v))
factor-more a b n u v k change many six within =
    let m = k - 3 in
    let more : v ≡ u + m = omega arith in
    let none : 3 - k ≡ 0 = omega arith in
    let also : 6 - k - 3 ≡ 0 = omega arith in
    let back : 3 - (6 - k) ≡ m = omega arith in
    let rest : n - u ≡ n - v + m = omega arith in
    let first : a ^ v ≡ a ^ u * a ^ m = ap (λ k. a ^ k) more ∙ pow-add a u m in
    let second : b ^ (n - u) ≡ b ^ (n - v) * b ^ m = ap (λ k. b ^ k) rest ∙ pow-add b (n - v) m in
    let a_one : a ^ (3 - k) ≡ 1 = ap (λ k. a ^ k) none ∙ pow-zero a in
    let b_one : b ^ (6 - k - 3) ≡ 1 = ap (λ k. b ^ k) also ∙ pow-zero b in
    let a_more : a ^ (3 - (6 - k)) ≡ a ^ m = ap (λ k. a ^ k) back in
    record {
      factor = a ^ u * b ^ (n - v);
      one = rw (second, a_one) (omega arith);
      other = rw (first, b_one, a_more) (omega arith);
    }

factor-less : (a b n u v k : ℕ) → v + 3 ≡ u + k → k < 3 → u ≤ n → ShareFactor a b k (a ^ u * b ^ (n - u)) (a ^ v * b ^ (n - v))
factor-less a b n u v k change few within =
    let m = 3 - k in
    let more : u ≡ v + m = omega arith in
    let none : k - 3 ≡ 0 = omega arith in
    let also : 3 - (6 - k) ≡ 0 = omega arith in
    let back : 6 - k - 3 ≡ m = omega arith in
    let rest : n - v ≡ n - u + m = omega arith in
    let first : a ^ u ≡ a ^ v * a ^ m = ap (λ k. a ^ k) more ∙ pow-add a v m in
    let second : b ^ (n - v) ≡ b ^ (n - u) * b ^ m = ap (λ k. b ^ k) rest ∙ pow-add b (n - u) m in
    let b_one : b ^ (k - 3) ≡ 1 = ap (λ k. b ^ k) none ∙ pow-zero b in
    let a_one : a ^ (3 - (6 - k)) ≡ 1 = ap (λ k. a ^ k) also ∙ pow-zero a in
    let b_more : b ^ (6 - k - 3) ≡ b ^ m = ap (λ k. b ^ k) back in
    record {
      factor = a ^ v * b ^ (n - u);
      one = rw (first, b_one) (omega arith);
      other = rw (second, a_one, b_more) (omega arith);
    }

pub share-factor : (a b : ℕ) (l : ℕ) (bonds : Bonds) (spins : List Bool) (i : ℕ) → IsLawfulSize l → length spins ≡ volume l → i < volume l
    → ShareFactor a b (satisfied l bonds spins i) (weight a b l bonds spins) (weight a b l bonds (turned spins i))
share-factor a b l bonds spins i lawful sized within =
    let change = unsatisfied-turned l bonds spins i lawful sized within in
    let six = satisfied-turned l bonds spins i lawful sized within in
    let before = unsatisfied-small l bonds spins in
    let after = unsatisfied-small l bonds (turned spins i) in
    let u = unsatisfied l bonds spins / 2 in
    let v = unsatisfied l bonds (turned spins i) / 2 in
    let halves : v + 3 ≡ u + satisfied l bonds spins i = omega arith in
    elim (cases_lt (satisfied l bonds spins i) 3) [
      | inl few ↦ factor-less a b (bond_count l) u v (satisfied l bonds spins i) halves few (omega arith)
      | inr many ↦ factor-more a b (bond_count l) u v (satisfied l bonds spins i) halves many (omega arith) (omega arith)
    ]

-- ---- what an update does

chosen : (n s : Bool) (xs : List Bool) (i : ℕ) → s ≡ get_or xs i false → set xs i n ≡ cond (not (agree n s)) (set xs i (not s)) xs
chosen true true xs i same = ap (set xs i) same ∙ set-get_or xs i false
chosen true false xs i same = refl
chosen false true xs i same = refl
chosen false false xs i same = ap (set xs i) same ∙ set-get_or xs i false

pub update-turns : (d : Dynamics) (spins : List Bool) (i u : ℕ) → i < length spins → updated_by d spins i u ≡ cond (turns d spins i u) (turned spins i) spins
update-turns d spins i u within =
    update-writes d spins i u ∙ chosen (updated d (λ _. u) spins i) (spin spins i) spins i refl
    ∙ ap (λ n. cond (not (agree n (spin spins i))) (turned spins i) spins) (sym (update-spin d spins i u within))

-- ---- the draws of each rule

unlike-true : (n : Bool) → not (agree n true) ≡ not n
unlike-true true = refl
unlike-true false = refl

unlike-false : (n : Bool) → not (agree n false) ≡ n
unlike-false true = refl
unlike-false false = refl

unlike-chosen : (f s : Bool) → not (agree (cond f (not s) s) s) ≡ f
unlike-chosen true true = refl
unlike-chosen true false = refl
unlike-chosen false true = refl
unlike-chosen false false = refl

-- the threshold of the aligned neighbours, and the counts
abbrev threshold_here : Dynamics → List Bool → ℕ → ℕ
threshold_here d spins i = get_or d.thresholds (aligned d.size d.bonds spins i) 0

heat-turns : (d : Dynamics) (spins : List Bool) (i u : ℕ) → d.rule ≡ HeatBath → i < length spins
    → turns d spins i u ≡ not (agree (nat_lt u (threshold_here d spins i)) (spin spins i))
heat-turns d spins i u heat within = ap (λ n. not (agree n (spin spins i))) (update-spin d spins i u within
    ∙ ap (λ r. new_spin r d.thresholds (aligned d.size d.bonds spins i) (satisfied d.size d.bonds spins i) u (spin spins i)) heat)

heat-up : (d : Dynamics) (spins : List Bool) (i all : ℕ) → d.rule ≡ HeatBath → i < length spins → spin spins i ≡ true → threshold_here d spins i ≤ all
    → count_below (turns d spins i) all + threshold_here d spins i ≡ all
heat-up d spins i all heat within up few =
    let below : ℕ → Bool = λ u. nat_lt u (threshold_here d spins i) in
    let same = count-same (turns d spins i) (λ u. not (below u)) all (λ u. heat-turns d spins i u heat within ∙ ap (λ s. not (agree (below u) s)) up ∙ unlike-true (below u)) in
    let others = count-others below all in
    let least = count-less (threshold_here d spins i) all few in
    omega arith

heat-down : (d : Dynamics) (spins : List Bool) (i all : ℕ) → d.rule ≡ HeatBath → i < length spins → spin spins i ≡ false → threshold_here d spins i ≤ all
    → count_below (turns d spins i) all ≡ threshold_here d spins i
heat-down d spins i all heat within down few =
    let below : ℕ → Bool = λ u. nat_lt u (threshold_here d spins i) in
    count-same (turns d spins i) below all (λ u. heat-turns d spins i u heat within ∙ ap (λ s. not (agree (below u) s)) down ∙ unlike-false (below u))
    ∙ count-less (threshold_here d spins i) all few

metropolis-draws : (d : Dynamics) (spins : List Bool) (i all : ℕ) → d.rule ≡ Metropolis → i < length spins
    → count_below (turns d spins i) all ≡ count_below (is_flipped d.thresholds (satisfied d.size d.bonds spins i)) all
metropolis-draws d spins i all rule within =
    let k = satisfied d.size d.bonds spins i in
    count-same (turns d spins i) (is_flipped d.thresholds k) all (λ u. ap (λ n. not (agree n (spin spins i))) (update-spin d spins i u within
    ∙ ap (λ r. new_spin r d.thresholds (aligned d.size d.bonds spins i) k u (spin spins i)) rule)
    ∙ unlike-chosen (is_flipped d.thresholds k u) (spin spins i))

-- ---- near

pub other-way : (r x y : ℕ) → AreNear r x y → AreNear r y x
other-way r x y n = record { above = n.below; below = n.above }

pub wider : (r s x y : ℕ) → r ≤ s → AreNear r x y → AreNear s x y
wider r s x y less n = let p = n.above in let q = n.below in record { above = omega arith; below = omega arith }

pub near-same : (r x y : ℕ) → x ≡ y → AreNear r x y
near-same r x y same = record { above = omega arith; below = omega arith }

pub exactly : (z x y : ℕ) → AreNear (0 * z) (1 * x) (1 * y) → x ≡ y
exactly z x y n = let p = n.above in let q = n.below in omega arith

-- a threshold h of all draws, and the rest m of them
near-heat : (r s h m all up down c : ℕ) → m + h ≡ all → AreNear (r * (up + down)) (s * (h * (up + down))) (s * (all * up)) → AreNear (r * (c * up + c * down)) (s * (m * (c * up))) (s * (h * (c * down)))
near-heat r s h m all up down c rest n =
    let every : (m + h) * (s * (c * up)) ≡ all * (s * (c * up)) = ap (λ k. k * (s * (c * up))) rest in
    let above = mul-le-mul_left c n.above in
    let below = mul-le-mul_left c n.below in
    record { above = omega arith; below = omega arith }

pub near-metropolis : (r s t all x y c : ℕ) → AreNear (r * x) (s * (t * x)) (s * (all * y)) → AreNear (r * (c * x)) (s * (t * (c * x))) (s * (all * (c * y)))
near-metropolis r s t all x y c n =
    let above = mul-le-mul_left c n.above in
    let below = mul-le-mul_left c n.below in
    record { above = omega arith; below = omega arith }

-- ---- heat bath

heat-sides : (r s h m all t v w x up down : ℕ) (c : ℕ) → m + h ≡ all → t ≡ m → v ≡ h → w ≡ c * up → x ≡ c * down
    → AreNear (r * (up + down)) (s * (h * (up + down))) (s * (all * up)) → AreNear (r * (w + x)) (s * (t * w)) (s * (v * x))
heat-sides r s h m all t v w x up down c rest first second one other n = rw (first, second, one, other) (near-heat r s h m all up down c rest n)

swapped-sum : (r w x s t : ℕ) → AreNear (r * (x + w)) t s → AreNear (r * (w + x)) s t
swapped-sum r w x s t n = let p = n.above in let q = n.below in record { above = omega arith; below = omega arith }

within-turned : (spins : List Bool) (i n : ℕ) → i < n → length spins ≡ n → i < length (turned spins i)
within-turned spins i n within sized = let long = length-set spins i (not (spin spins i)) in omega arith

-- the draws times the weights, for any number of draws
abbrev Sides : ℕ → ℕ → ℕ → ℕ → ℕ → Dynamics → List Bool → ℕ → Type 0
Sides all r s a b d spins i =
    AreNear r (s * (count_below (turns d spins i) all * weight_of a b d spins)) (s * (count_below (turns d (turned spins i) i) all * weight_of a b d (turned spins i)))

heat-sides-balance : (all r s a b : ℕ) (d : Dynamics) (spins : List Bool) (i j : ℕ) → d.rule ≡ HeatBath
    → IsLawfulSize d.size → length spins ≡ volume d.size → i < volume d.size → aligned d.size d.bonds spins i ≡ j → get_or d.thresholds j 0 ≤ all
    → AreNear (r * (site_weight a b j + site_weight a b (6 - j))) (s * (get_or d.thresholds j 0 * (site_weight a b j + site_weight a b (6 - j)))) (s * (all * site_weight a b j))
    → Sides all (r * (weight_of a b d spins + weight_of a b d (turned spins i))) s a b d spins i
heat-sides-balance all r s a b d spins i j heat lawful sized within here limited near =
    let w = weight_of a b d spins in
    let x = weight_of a b d (turned spins i) in
    let h = get_or d.thresholds j 0 in
    let same : threshold_here d spins i ≡ h = ap (λ k. get_or d.thresholds k 0) here in
    let also : threshold_here d (turned spins i) i ≡ h = ap (λ k. get_or d.thresholds k 0) (aligned-turned d.size d.bonds spins i lawful within ∙ here) in
    let small : threshold_here d spins i ≤ all = omega arith in
    let small_too : threshold_here d (turned spins i) i ≤ all = omega arith in
    let inside : i < length spins = omega arith in
    let inside_too = within-turned spins i (volume d.size) within sized in
    let other = spin-turned spins i inside in
    let shared = share-factor a b d.size d.bonds spins i lawful sized within in
    elim (cases_Bool (spin spins i)) [
      | inl up ↦
          let k : satisfied d.size d.bonds spins i ≡ j = satisfied-up d.size d.bonds spins i up ∙ here in
          let t = heat-up d spins i all heat inside up small in
          let v = heat-down d (turned spins i) i all heat inside_too (other ∙ ap not up) small_too in
          heat-sides r s h (count_below (turns d spins i) all) all (count_below (turns d spins i) all) (count_below (turns d (turned spins i) i) all) w x (site_weight a b j) (site_weight a b (6 - j)) shared.factor
          (omega arith) refl (v ∙ also) (shared.one ∙ ap (λ k. shared.factor * site_weight a b k) k) (shared.other ∙ ap (λ k. shared.factor * site_weight a b (6 - k)) k) near
      | inr down ↦
          let six = satisfied-down d.size d.bonds spins i down in
          let k : satisfied d.size d.bonds spins i ≡ 6 - j = omega arith in
          let back : 6 - satisfied d.size d.bonds spins i ≡ j = omega arith in
          let t = heat-down d spins i all heat inside down small in
          let v = heat-up d (turned spins i) i all heat inside_too (other ∙ ap not down) small_too in
          swapped-sum r w x (s * (count_below (turns d spins i) all * w)) (s * (count_below (turns d (turned spins i) i) all * x))
          (heat-sides r s h (count_below (turns d (turned spins i) i) all) all (count_below (turns d (turned spins i) i) all) (count_below (turns d spins i) all) x w (site_weight a b j) (site_weight a b (6 - j)) shared.factor
          (omega arith) refl (t ∙ same) (shared.other ∙ ap (λ k. shared.factor * site_weight a b k) back) (shared.one ∙ ap (λ k. shared.factor * site_weight a b k) k) near)
    ]

pub heat-balances : (r s a b : ℕ) (d : Dynamics) (spins : List Bool) (i : ℕ) → d.rule ≡ HeatBath
    → IsLawfulSize d.size → length spins ≡ volume d.size → i < volume d.size
    → IsHeatBathThreshold r s a b d.thresholds (aligned d.size d.bonds spins i)
    → Balances (r * (weight_of a b d spins + weight_of a b d (turned spins i))) s a b d spins i
heat-balances r s a b d spins i heat lawful sized within t =
    heat-sides-balance (2 ^ 32) r s a b d spins i (aligned d.size d.bonds spins i) heat lawful sized within refl t.limited t.near

-- ---- Metropolis

-- what the rule asks of a threshold, for any number of draws
pub record IsFlipThreshold (all r s a b : ℕ) (thresholds : List ℕ) (k : ℕ) : Type 0 where
  pub limited : get_or thresholds (k - 4) 0 ≤ all
  pub near : AreNear (r * b ^ (k - 3)) (s * (get_or thresholds (k - 4) 0 * b ^ (k - 3))) (s * (all * a ^ (k - 3)))

abbrev flips : ℕ → List ℕ → ℕ → ℕ
flips all thresholds k = count_below (is_flipped thresholds k) all

pub weight-more : (a b k : ℕ) → 3 ≤ k → site_weight a b k ≡ b ^ (k - 3)
weight-more a b k many =
    let none : 3 - k ≡ 0 = omega arith in
    let one : a ^ (3 - k) ≡ 1 = ap (λ n. a ^ n) none ∙ pow-zero a in
    rw one (omega arith)

pub weight-less : (a b k : ℕ) → 3 ≤ k → k ≤ 6 → site_weight a b (6 - k) ≡ a ^ (k - 3)
weight-less a b k many six =
    let none : 6 - k - 3 ≡ 0 = omega arith in
    let back : 3 - (6 - k) ≡ k - 3 = omega arith in
    let one : b ^ (6 - k - 3) ≡ 1 = ap (λ n. b ^ n) none ∙ pow-zero b in
    let rest : a ^ (3 - (6 - k)) ≡ a ^ (k - 3) = ap (λ n. a ^ n) back in
    rw (one, rest) (omega arith)

flips-near : (all r s a b : ℕ) (thresholds : List ℕ) (k j w x c : ℕ) → k + j ≡ 6 → j ≤ k → w ≡ c * site_weight a b k → x ≡ c * site_weight a b (6 - k)
    → (4 ≤ k → IsFlipThreshold all r s a b thresholds k) → AreNear (r * max w x) (s * (flips all thresholds k * w)) (s * (flips all thresholds j * x))
flips-near all r s a b thresholds k j w x c six order one other given = elim (cases_lt 3 k) [
  | inl many ↦
      let t = given (omega arith) in
      let first = flips-some thresholds k all (omega arith) t.limited in
      let second = flips-all thresholds j all (omega arith) in
      let w_is : w ≡ c * b ^ (k - 3) = one ∙ ap (λ n. c * n) (weight-more a b k (omega arith)) in
      let x_is : x ≡ c * a ^ (k - 3) = other ∙ ap (λ n. c * n) (weight-less a b k (omega arith) (omega arith)) in
      let near : AreNear (r * w) (s * (flips all thresholds k * w)) (s * (flips all thresholds j * x)) =
      rw (first, second, w_is, x_is) (near-metropolis r s (get_or thresholds (k - 4) 0) all (b ^ (k - 3)) (a ^ (k - 3)) c t.near) in
      let greater : w ≤ max w x = omega arith in
      wider (r * w) (r * max w x) _ _ (mul-le-mul_left r greater) near
  | inr few ↦
      let same : k ≡ 6 - k = omega arith in
      let first = flips-all thresholds k all few in
      let second = flips-all thresholds j all (omega arith) in
      near-same (r * max w x) _ _ (rw (first, second) (ap (λ n. s * (all * n)) (one ∙ ap (λ n. c * site_weight a b n) same ∙ sym other)))
]

metropolis-sides : (all r s a b : ℕ) (d : Dynamics) (spins : List Bool) (i : ℕ) → d.rule ≡ Metropolis
    → IsLawfulSize d.size → length spins ≡ volume d.size → i < volume d.size
    → (4 ≤ more_satisfied d spins i → IsFlipThreshold all r s a b d.thresholds (more_satisfied d spins i))
    → Sides all (r * max (weight_of a b d spins) (weight_of a b d (turned spins i))) s a b d spins i
metropolis-sides all r s a b d spins i rule lawful sized within given =
    let w = weight_of a b d spins in
    let x = weight_of a b d (turned spins i) in
    let k = satisfied d.size d.bonds spins i in
    let j = satisfied d.size d.bonds (turned spins i) i in
    let six : j + k ≡ 6 = satisfied-turned d.size d.bonds spins i lawful sized within in
    let shared = share-factor a b d.size d.bonds spins i lawful sized within in
    let first = metropolis-draws d spins i all rule (omega arith) in
    let second = metropolis-draws d (turned spins i) i all rule (within-turned spins i (volume d.size) within sized) in
    let P : ℕ → Type 0 = λ n. 4 ≤ n → IsFlipThreshold all r s a b d.thresholds n in
    rw (first, second) (elim (cases_lt k j) [
      | inl less ↦
          let most : more_satisfied d spins i ≡ j = omega arith in
          let back : k ≡ 6 - j = omega arith in
          let there : 6 - k ≡ j = omega arith in
          let greater : max x w ≡ max w x = omega arith in
          let near = flips-near all r s a b d.thresholds j k x w shared.factor six (omega arith) (shared.other ∙ ap (λ n. shared.factor * site_weight a b n) there) (shared.one ∙ ap (λ n. shared.factor * site_weight a b n) back) (subst P most given) in
          subst (λ (n : ℕ). AreNear (r * n) (s * (flips all d.thresholds k * w)) (s * (flips all d.thresholds j * x))) greater (other-way (r * max x w) _ _ near)
      | inr more ↦
          let most : more_satisfied d spins i ≡ k = omega arith in
          flips-near all r s a b d.thresholds k j w x shared.factor (omega arith) more shared.one shared.other (subst P most given)
    ])

pub metropolis-balances : (r s a b : ℕ) (d : Dynamics) (spins : List Bool) (i : ℕ) → d.rule ≡ Metropolis
    → IsLawfulSize d.size → length spins ≡ volume d.size → i < volume d.size
    → (4 ≤ more_satisfied d spins i → IsMetropolisThreshold r s a b d.thresholds (more_satisfied d spins i))
    → Balances (r * max (weight_of a b d spins) (weight_of a b d (turned spins i))) s a b d spins i
metropolis-balances r s a b d spins i rule lawful sized within given =
    metropolis-sides (2 ^ 32) r s a b d spins i rule lawful sized within (λ many. let t = given many in record { limited = t.limited; near = t.near })

-- ---- exact thresholds

exact-by-rule : (rule : Rule) (a b : ℕ) (d : Dynamics) (spins : List Bool) (i : ℕ) → d.rule ≡ rule
    → IsLawfulSize d.size → length spins ≡ volume d.size → i < volume d.size
    → IsExactAt a b rule d.thresholds (aligned d.size d.bonds spins i) (more_satisfied d spins i)
    → turning_draws d spins i * weight_of a b d spins ≡ turning_draws d (turned spins i) i * weight_of a b d (turned spins i)
exact-by-rule HeatBath a b d spins i rule lawful sized within exact = exactly _ _ _ (heat-balances 0 1 a b d spins i rule lawful sized within exact)
exact-by-rule Metropolis a b d spins i rule lawful sized within exact = exactly _ _ _ (metropolis-balances 0 1 a b d spins i rule lawful sized within exact)

pub exact-balances : (a b : ℕ) (d : Dynamics) (spins : List Bool) (i : ℕ) → IsLawfulSize d.size → length spins ≡ volume d.size → i < volume d.size
    → IsExactAt a b d.rule d.thresholds (aligned d.size d.bonds spins i) (more_satisfied d spins i)
    → turning_draws d spins i * weight_of a b d spins ≡ turning_draws d (turned spins i) i * weight_of a b d (turned spins i)
exact-balances a b d spins i = exact-by-rule d.rule a b d spins i refl

keeps : (t s k all w v : ℕ) → t * w ≡ s * v → k + t ≡ all → s * v + k * w ≡ all * w
keeps t s k all w v balance rest = let whole = ap (λ n. n * w) rest in omega arith

pub keeps-boltzmann : (a b : ℕ) (d : Dynamics) (spins : List Bool) (i : ℕ) → IsLawfulSize d.size → length spins ≡ volume d.size → i < volume d.size
    → IsExactAt a b d.rule d.thresholds (aligned d.size d.bonds spins i) (more_satisfied d spins i)
    → turning_draws d (turned spins i) i * weight_of a b d (turned spins i) + keeping_draws d spins i * weight_of a b d spins ≡ 2 ^ 32 * weight_of a b d spins
keeps-boltzmann a b d spins i lawful sized within exact =
    keeps (turning_draws d spins i) (turning_draws d (turned spins i) i) (keeping_draws d spins i) (2 ^ 32) (weight_of a b d spins) (weight_of a b d (turned spins i))
    (exact-balances a b d spins i lawful sized within exact) (count-others (turns d spins i) (2 ^ 32))

same-factor : (x y s : ℕ) → 0 < s → s * x ≡ s * y → x ≡ y
same-factor x y s some same =
    let less : x ≤ y = le_of_mul-le-mul_left (let e : s * x ≤ s * y = omega arith in e) some in
    let more : y ≤ x = le_of_mul-le-mul_left (let e : s * y ≤ s * x = omega arith in e) some in
    omega arith

opposite-sum : (x y p q all : ℕ) → 0 < p + q → x * (p + q) ≡ all * p → y * (q + p) ≡ all * q → x + y ≡ all
opposite-sum x y p q all some first second = same-factor (x + y) all (p + q) some (omega arith)

opposite-ratio : (x y p q all : ℕ) → 0 < p + q → x * (p + q) ≡ all * p → y * (q + p) ≡ all * q → y * p ≡ x * q
opposite-ratio x y p q all some first second =
    let up : q * (x * (p + q)) ≡ q * (all * p) = ap (λ n. q * n) first in
    let down : p * (y * (q + p)) ≡ p * (all * q) = ap (λ n. p * n) second in
    same-factor (y * p) (x * q) (p + q) some (omega arith)

pub opposite-fields : (all x y a b j : ℕ) → j ≤ 6 → 0 < site_weight a b j + site_weight a b (6 - j)
    → AreNear (0 * (site_weight a b j + site_weight a b (6 - j))) (1 * (x * (site_weight a b j + site_weight a b (6 - j)))) (1 * (all * site_weight a b j))
    → AreNear (0 * (site_weight a b (6 - j) + site_weight a b (6 - (6 - j)))) (1 * (y * (site_weight a b (6 - j) + site_weight a b (6 - (6 - j))))) (1 * (all * site_weight a b (6 - j)))
    → (x + y ≡ all) × (y * site_weight a b j ≡ x * site_weight a b (6 - j))
opposite-fields all x y a b j six some first second =
    let back : 6 - (6 - j) ≡ j = omega arith in
    let own = exactly _ _ _ first in
    let other = ap (λ n. y * (site_weight a b (6 - j) + site_weight a b n)) (sym back) ∙ exactly _ _ _ second in
    (opposite-sum x y (site_weight a b j) (site_weight a b (6 - j)) all some own other, opposite-ratio x y (site_weight a b j) (site_weight a b (6 - j)) all some own other)
