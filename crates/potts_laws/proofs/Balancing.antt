-- Pairs of draws and weights on the two sides of a change.
use Rattle.std.proofs.Common.{inl, inr, ◌≡◌, ◌≢◌, ℕ, ◌+◌, ◌-◌, ◌*◌, ◌^◌, ◌<◌, ◌≤◌, Bool, true, false, ◌==◌, ◌||◌, if◌then◌else◌, List, length, get_or, set, refl, ap, sym, ◌∙◌, arith}
use Rattle.std.specs.Prelude.{nat_lt, max, pos, ◌+ℤ◌}
use Rattle.std.proofs.Math.Nat.{mul-le-mul_left, pow-zero}
use Rattle.std.proofs.lemmas.Bool.{cases_lt, cases_eq, eq-eqb, le-leb, lt-leb, lt-ltb, le-ltb}
use Rattle.std.proofs.lemmas.Int.{ints}
use Rattle.std.proofs.lemmas.Nat.{pow-add}
use Rattle.std.proofs.lemmas.List.{get_or-set_same, get_or-set_other, length-set}
use Rattle.finite_chance.specs.Sums.{sum_to}
use Rattle.finite_chance.specs.Chains.{AreNear}
use Rattle.finite_chance.proofs.Sums.{each-same}
use Rattle.spin_model.specs.Words.{one_if}
use Rattle.spin_model.specs.Couplings.{Bonds}
use Rattle.spin_model.specs.Lattice.{IsLawfulSize, volume, bond_count, colour as class}
use Rattle.spin_model.specs.Steps.{count_below}
use Rattle.spin_model.proofs.Counts.{count-same, count-most}
use Rattle.potts_glass.specs.Potts.{Dynamics, Surroundings, favours, votes, step_of, proposed, is_made, new_colour, neighbour, joint, around, visit, is_raising, is_lowering, energy}
use Rattle.potts_glass.proofs.Colours.{votes-most}
use Rattle.potts_laws.specs.Changes.{changed, updated_by}
use Rattle.potts_laws.specs.Weights.{height, weight, weight_of, AreThresholds}
use Rattle.potts_laws.specs.Laws.{Balances}
use Rattle.potts_laws.proofs.Counts.{IsBetween, count-between, count-all, count-none, sum-tested, unequal}
use Rattle.potts_laws.proofs.Proposals.{proposals-third, back-step, step-leads_on}
use Rattle.potts_laws.proofs.Bonds.{neighbour-other, change}

-- ---- weights

height-most : (l : ℕ) (bonds : Bonds) (colours : List ℕ) → height l bonds colours ≤ 2 * bond_count l
height-most l bonds colours = let up = count-most (is_raising l bonds colours) (bond_count l) in omega arith

-- the weights of two configurations of which the second is higher by g, as parts of one factor
record ShareFactor (a b g w v : ℕ) : Type 0 where
  pub factor : ℕ
  pub one : w ≡ factor * b ^ g
  pub other : v ≡ factor * a ^ g

share-factor : (a b n u v g : ℕ) → v ≡ u + g → v ≤ n → ShareFactor a b g (a ^ u * b ^ (n - u)) (a ^ v * b ^ (n - v))
share-factor a b n u v g more within =
    let first : a ^ v ≡ a ^ u * a ^ g = ap (λ k. a ^ k) more ∙ pow-add a u g in
    let rest : n - u ≡ n - v + g = omega arith in
    let second : b ^ (n - u) ≡ b ^ (n - v) * b ^ g = ap (λ k. b ^ k) rest ∙ pow-add b (n - v) g in
    record {
      factor = a ^ u * b ^ (n - v);
      one = rw second (omega arith);
      other = rw first (omega arith);
    }

cross-powers : (k x y w v : ℕ) → w ≡ k * y → v ≡ k * x → v * y ≡ w * x
cross-powers k x y w v one other = rw (one, other) (omega arith)

pub weights-ratio : (a b l : ℕ) (bonds : Bonds) (s t : List ℕ) (m : ℕ) → energy l bonds t ≡ energy l bonds s +ℤ pos m
    → weight a b l bonds t * b ^ m ≡ weight a b l bonds s * a ^ m
weights-ratio a b l bonds s t m gap =
    let s_low = count-most (is_lowering l bonds s) (bond_count l) in
    let t_low = count-most (is_lowering l bonds t) (bond_count l) in
    let more : height l bonds t ≡ height l bonds s + m = omega (arith, ints) in
    let f = share-factor a b (2 * bond_count l) (height l bonds s) (height l bonds t) m more (height-most l bonds t) in
    cross-powers f.factor (a ^ m) (b ^ m) (weight a b l bonds s) (weight a b l bonds t) f.one f.other

-- ---- what an update does

pub update-writes : (d : Dynamics) (colours : List ℕ) (i u v : ℕ)
    → updated_by d colours i u v ≡ set colours i (new_colour d.thresholds (step_of u) v (around d.size d.bonds colours i) (get_or colours i 0))
unfolding visit
update-writes d colours i u v =
    ap (λ b. if b then set colours i (new_colour d.thresholds (step_of u) v (around d.size d.bonds colours i) (get_or colours i 0)) else colours)
    (eq-eqb (class d.size i) (class d.size i) refl)

pub update-colour : (d : Dynamics) (colours : List ℕ) (i u v : ℕ) → i < length colours
    → get_or (updated_by d colours i u v) i 0 ≡ new_colour d.thresholds (step_of u) v (around d.size d.bonds colours i) (get_or colours i 0)
update-colour d colours i u v within = ap (λ xs. get_or xs i 0) (update-writes d colours i u v) ∙ get_or-set_same colours i _ 0 within

pub updates-keep : (d : Dynamics) (colours : List ℕ) (i u v : ℕ) → i < length colours
    → updated_by d colours i u v ≡ changed colours i (get_or (updated_by d colours i u v) i 0)
updates-keep d colours i u v within = update-writes d colours i u v ∙ ap (set colours i) (sym (update-colour d colours i u v within))

-- ---- the pairs of draws

-- second draws that make a change with these votes
abbrev making : ℕ → List ℕ → ℕ → ℕ → ℕ
making all thresholds lost won = count_below (is_made thresholds lost won) all

making-all : (all : ℕ) (thresholds : List ℕ) (lost won : ℕ) → lost ≤ won → making all thresholds lost won ≡ all
making-all all thresholds lost won free =
    count-all (is_made thresholds lost won) all (λ v. ap (λ b. b || nat_lt v (get_or thresholds (lost - won - 1) 0)) (le-leb lost won free))

making-some : (all : ℕ) (thresholds : List ℕ) (lost won : ℕ) → won < lost → get_or thresholds (lost - won - 1) 0 ≤ all
    → making all thresholds lost won ≡ get_or thresholds (lost - won - 1) 0
making-some all thresholds lost won dear limited =
    let t = get_or thresholds (lost - won - 1) 0 in
    let b : IsBetween (λ v. nat_lt v t) 0 t all = record {
      under = λ u less. absurd (omega arith);
      inside = λ u past less. lt-ltb u t less;
      over = λ u more within. le-ltb u t more;
    } in
    let counted = count-between (λ v. nat_lt v t) 0 t all all (omega arith) (omega arith) b in
    let same = count-same (is_made thresholds lost won) (λ v. nat_lt v t) all (λ v below. ap (λ b. b || nat_lt v t) (lt-leb lost won dear)) in
    omega arith

picked : (m : Bool) (c other : ℕ) → c ≢ other → ((if m then other else c) == other) ≡ m
picked true c other apart = eq-eqb other other refl
picked false c other apart = unequal c other apart

missed : (m : Bool) (q c other : ℕ) → q ≢ other → c ≢ other → ((if m then q else c) == other) ≡ false
missed true q c other wrong apart = unequal q other wrong
missed false q c other wrong apart = unequal c other apart

-- the second draws, for a proposal q
by-proposal : (all : ℕ) (thresholds : List ℕ) (near : Surroundings) (c other q : ℕ) → c ≢ other
    → count_below (λ v. (if is_made thresholds (votes near c q) (votes near q c) v then q else c) == other) all
    ≡ one_if (q == other) * making all thresholds (votes near c other) (votes near other c)
by-proposal all thresholds near c other q apart =
    let m = making all thresholds (votes near c other) (votes near other c) in
    elim (cases_eq q other) [
      | inl same ↦
          let one : one_if (q == other) * m ≡ 1 * m = ap (λ b. one_if b * m) (eq-eqb q other same) in
          let counted = count-same (λ v. (if is_made thresholds (votes near c q) (votes near q c) v then q else c) == other) (is_made thresholds (votes near c other) (votes near other c)) all
          (λ v below. ap (λ n. (if is_made thresholds (votes near c n) (votes near n c) v then n else c) == other) same
          ∙ picked (is_made thresholds (votes near c other) (votes near other c) v) c other apart) in
          omega arith
      | inr wrong ↦
          let none : one_if (q == other) * m ≡ 0 * m = ap (λ b. one_if b * m) (unequal q other wrong) in
          let counted = count-none (λ v. (if is_made thresholds (votes near c q) (votes near q c) v then q else c) == other) all
          (λ v. missed (is_made thresholds (votes near c q) (votes near q c) v) q c other wrong apart) in
          omega arith
    ]

abbrev proposing : ℕ → ℕ → ℕ → ℕ
proposing all c other = count_below (λ u. proposed c (step_of u) == other) all

abbrev leading : ℕ → Dynamics → List ℕ → ℕ → ℕ → ℕ
leading all d colours i c = sum_to all (λ u. count_below (λ v. get_or (updated_by d colours i u v) i 0 == c) all)

-- a change is proposed, and made
leading-parts : (all : ℕ) (d : Dynamics) (colours : List ℕ) (i c other : ℕ) (near : Surroundings) → i < length colours → near ≡ around d.size d.bonds colours i
    → get_or colours i 0 ≡ c → c ≢ other
    → leading all d colours i other ≡ proposing all c other * making all d.thresholds (votes near c other) (votes near other c)
leading-parts all d colours i c other near within sees here apart =
    ap (sum_to all) (each-same _ _ (λ u.
    count-same _ _ all (λ v below. ap (λ x. x == other) (update-colour d colours i u v within
    ∙ ap (λ x. new_colour d.thresholds (step_of u) v (around d.size d.bonds colours i) x) here
    ∙ ap (λ x. new_colour d.thresholds (step_of u) v x c) (sym sees)))
    ∙ by-proposal all d.thresholds near c other (proposed c (step_of u)) apart))
    ∙ sum-tested (λ u. proposed c (step_of u) == other) (making all d.thresholds (votes near c other) (votes near other c)) all

-- the site sees the same whatever colour it has
votes-changed : (l : ℕ) (bonds : Bonds) (colours : List ℕ) (i x c other : ℕ) → IsLawfulSize l → i < volume l
    → votes (around l bonds (changed colours i x) i) c other ≡ votes (around l bonds colours i) c other
votes-changed l bonds colours i x c other lawful within =
    count-same (favours (around l bonds (changed colours i x) i) c other) (favours (around l bonds colours i) c other) 6
    (λ k six. ap (λ s. if bonds (joint l i k) then s == other else s == c) (get_or-set_other colours i (neighbour l i k) x 0 (neighbour-other l i k lawful within)))

-- ---- near

-- p changes and back p' of them, by t of all second draws and by all, at the weights k y and k x
near-change : (all s r t p back q k x y w v : ℕ) → AreNear (r * y) (s * (t * y)) (s * (all * x)) → t ≤ all
    → p ≤ back + 1 → back ≤ p + 1 → back ≤ q → w ≡ k * y → v ≡ k * x
    → AreNear ((all * s + q * r) * w) (s * (p * t * w)) (s * (back * all * v))
near-change all s r t p back q k x y w v n limited few many small one other =
    let above : s * (t * w) ≤ s * (all * v) + r * w = let h = mul-le-mul_left k n.above in rw (one, other) (omega arith) in
    let below : s * (all * v) ≤ s * (t * w) + r * w = let h = mul-le-mul_left k n.below in rw (one, other) (omega arith) in
    let e = mul-le-mul_left back above in
    let f = mul-le-mul_left back below in
    let g = mul-le-mul_left (s * (t * w)) few in
    let h = mul-le-mul_left (s * (t * w)) many in
    let rounding = mul-le-mul_left (r * w) small in
    let draw = mul-le-mul_left (s * w) limited in
    record { above = omega arith; below = omega arith }

-- thresholds, for any number of draws
abbrev Fit : ℕ → ℕ → ℕ → ℕ → ℕ → List ℕ → Type 0
Fit all r s a b thresholds = (g : ℕ) → 1 ≤ g → g ≤ 6
    → (get_or thresholds (g - 1) 0 ≤ all) × AreNear (r * b ^ g) (s * (get_or thresholds (g - 1) 0 * b ^ g)) (s * (all * a ^ g))

even : (all s r x y : ℕ) → x ≡ y → AreNear (r * y) (s * (all * y)) (s * (all * x))
even all s r x y same = rw same (record { above = omega arith; below = omega arith })

dear-change : (all r s a b : ℕ) (thresholds : List ℕ) (lost won p back q w v : ℕ) → won ≤ lost → lost ≤ 6 → Fit all r s a b thresholds
    → p ≤ back + 1 → back ≤ p + 1 → back ≤ q → ShareFactor a b (lost - won) w v
    → AreNear ((all * s + q * r) * w) (s * (p * making all thresholds lost won * w)) (s * (back * making all thresholds won lost * v))
dear-change all r s a b thresholds lost won p back q w v dear six fit few many small f = elim (cases_lt won lost) [
  | inl less ↦
      let t = fit (lost - won) (omega arith) (omega arith) in
      rw (making-some all thresholds lost won less t.0, making-all all thresholds won lost dear)
      (near-change all s r (get_or thresholds (lost - won - 1) 0) p back q f.factor (a ^ (lost - won)) (b ^ (lost - won)) w v t.1 t.0 few many small f.one f.other)
  | inr not_less ↦
      let none : lost - won ≡ 0 = omega arith in
      let level : a ^ (lost - won) ≡ b ^ (lost - won) = ap (λ n. a ^ n) none ∙ pow-zero a ∙ sym (pow-zero b) ∙ ap (λ n. b ^ n) (sym none) in
      rw (making-all all thresholds lost won (omega arith), making-all all thresholds won lost dear)
      (near-change all s r all p back q f.factor (a ^ (lost - won)) (b ^ (lost - won)) w v (even all s r (a ^ (lost - won)) (b ^ (lost - won)) level) (omega arith) few many small f.one f.other)
]

-- ---- detailed balance

pub wider : (e w m x y : ℕ) → w ≤ m → AreNear (e * w) x y → AreNear (e * m) x y
wider e w m x y less n =
    let h = mul-le-mul_left e less in
    let p = n.above in
    let q = n.below in
    record { above = omega arith; below = omega arith }

turned-round : (e x y : ℕ) → AreNear e x y → AreNear e y x
turned-round e x y n = record { above = n.below; below = n.above }

balances : (all q r s a b : ℕ) (d : Dynamics) (colours : List ℕ) (i other : ℕ) → IsLawfulSize d.size → length colours ≡ volume d.size → i < volume d.size
    → get_or colours i 0 ≢ other → Fit all r s a b d.thresholds
    → proposing all (get_or colours i 0) other ≤ proposing all other (get_or colours i 0) + 1 → proposing all other (get_or colours i 0) ≤ proposing all (get_or colours i 0) other + 1
    → proposing all (get_or colours i 0) other ≤ q → proposing all other (get_or colours i 0) ≤ q
    → AreNear ((all * s + q * r) * max (weight_of a b d colours) (weight_of a b d (changed colours i other)))
    (s * (leading all d colours i other * weight_of a b d colours))
    (s * (leading all d (changed colours i other) i (get_or colours i 0) * weight_of a b d (changed colours i other)))
balances all q r s a b d colours i other lawful sized within apart fit few many small small_back =
    let l = d.size in
    let c = get_or colours i 0 in
    let new = changed colours i other in
    let near = around l d.bonds colours i in
    let near_new = around l d.bonds new i in
    let lost = votes near c other in
    let won = votes near other c in
    let p = proposing all c other in
    let back = proposing all other c in
    let w = weight_of a b d colours in
    let v = weight_of a b d new in
    let inside : i < length colours = omega arith in
    let long = length-set colours i other in
    let inside_new : i < length new = omega arith in
    let here : get_or new i 0 ≡ other = get_or-set_same colours i other 0 inside in
    let going : leading all d colours i other ≡ p * making all d.thresholds lost won = leading-parts all d colours i c other near inside refl refl apart in
    let coming : leading all d new i c ≡ back * making all d.thresholds won lost =
    leading-parts all d new i other c near_new inside_new refl here (λ e. apart (sym e))
    ∙ ap (λ n. back * making all d.thresholds n (votes near_new c other)) (votes-changed l d.bonds colours i other other c lawful within)
    ∙ ap (λ n. back * making all d.thresholds won n) (votes-changed l d.bonds colours i other c other lawful within) in
    let bonds = (change l d.bonds colours i other lawful sized within).balance in
    let low = count-most (is_lowering l d.bonds colours) (bond_count l) in
    let low_new = count-most (is_lowering l d.bonds new) (bond_count l) in
    let heights : height l d.bonds new + won ≡ height l d.bonds colours + lost = omega arith in
    rw (going, coming)
    (elim (cases_lt lost won) [
      | inl cheap ↦
          let f = share-factor a b (2 * bond_count l) (height l d.bonds new) (height l d.bonds colours) (won - lost) (omega arith) (height-most l d.bonds colours) in
          wider (all * s + q * r) v (max w v) _ _ (omega arith)
          (turned-round _ _ _ (dear-change all r s a b d.thresholds won lost back p q v w (omega arith) (votes-most near other c) fit many few small f))
      | inr dear ↦
          let f = share-factor a b (2 * bond_count l) (height l d.bonds colours) (height l d.bonds new) (lost - won) (omega arith) (height-most l d.bonds new) in
          wider (all * s + q * r) w (max w v) _ _ (omega arith)
          (dear-change all r s a b d.thresholds lost won p back q w v dear (votes-most near c other) fit few many small_back f)
    ])

pub updates-balance : (r s a b : ℕ) (d : Dynamics) (colours : List ℕ) (i step : ℕ)
    → IsLawfulSize d.size → length colours ≡ volume d.size → i < volume d.size → get_or colours i 0 < 4 → step < 3
    → AreThresholds r s a b d.thresholds
    → Balances ((2 ^ 32 * s + 1431655766 * r) * max (weight_of a b d colours) (weight_of a b d (changed colours i (proposed (get_or colours i 0) step))))
    s a b d colours i (proposed (get_or colours i 0) step)
updates-balance r s a b d colours i step lawful sized within colour small thresholds =
    let c = get_or colours i 0 in
    let other = proposed c step in
    let going = proposals-third c other step small refl in
    let coming = proposals-third other c (2 - step) (omega arith) (back-step c step colour small) in
    let going_least = going.least in
    let going_most = going.most in
    let coming_least = coming.least in
    let coming_most = coming.most in
    balances (2 ^ 32) 1431655766 r s a b d colours i other lawful sized within (step-leads_on c step colour small)
    (λ g first last. let t = thresholds g first last in (t.limited, t.near)) (omega arith) (omega arith) going_most coming_most
