-- The products of draws and weights on the two sides of an exchange.
use Rattle.std.proofs.Common.{inl, inr, ◌≡◌, ℕ, ◌+◌, ◌-◌, ◌*◌, ◌/◌, ◌%◌, ◌^◌, ◌<◌, ◌≤◌, Bool, ◌||◌, List, ap, sym, ◌∙◌, subst, arith}
use Rattle.std.specs.Prelude.{nat_lt, max}
use Rattle.std.proofs.Math.Nat.{mul-le-mul_left}
use Rattle.std.proofs.lemmas.Bool.{cases_order, le-leb, lt-leb}
use Rattle.std.proofs.lemmas.Nat.{pow-add, mul-pow}
use Rattle.finite_chance.specs.Chains.{AreNear}
use Rattle.spin_model.specs.Couplings.{Bonds}
use Rattle.spin_model.specs.Lattice.{IsLawfulSize, bond_count}
use Rattle.spin_model.specs.Steps.{count_below}
use Rattle.threshold_table.specs.Tables.{swap_threshold}
use Rattle.scalar_rule.specs.Exchange.{is_swapped}
use Rattle.scalar_rule.specs.Sums.{unsatisfied}
use Rattle.scalar_rule.proofs.EnergyParity.{unsatisfied-same}
use Rattle.model_laws.specs.ExchangeBalance.{IsSwapEntry, pair_weight, half_difference}
use Rattle.model_laws.proofs.DrawCounts.{count-all, count-same, count-less}
use Rattle.model_laws.proofs.Balancing.{unsatisfied-small, other-way, wider, near-same, near-metropolis, exactly}

-- ---- draws

abbrev swaps : ℕ → List (List ℕ) → ℕ → ℕ → ℕ → ℕ
swaps all table pair cold hot = count_below (λ u. is_swapped table pair u cold hot) all

pub swaps-all : (all : ℕ) (table : List (List ℕ)) (pair cold hot : ℕ) → hot ≤ cold → swaps all table pair cold hot ≡ all
swaps-all all table pair cold hot few =
    count-all (λ u. is_swapped table pair u cold hot) all (λ u. ap (λ b. b || nat_lt u (swap_threshold table pair ((hot - cold - 1) / 2))) (le-leb hot cold few))

pub swaps-some : (all : ℕ) (table : List (List ℕ)) (pair cold hot : ℕ) → cold < hot → swap_threshold table pair ((hot - cold - 1) / 2) ≤ all
    → swaps all table pair cold hot ≡ swap_threshold table pair ((hot - cold - 1) / 2)
swaps-some all table pair cold hot more within =
    let entry = swap_threshold table pair ((hot - cold - 1) / 2) in
    count-same (λ u. is_swapped table pair u cold hot) (λ u. nat_lt u entry) all (λ u. ap (λ b. b || nat_lt u entry) (lt-leb hot cold more))
    ∙ count-less entry all within

-- ---- weights

-- the weight of a pair's state by halves of the unsatisfied bonds
abbrev product : ℕ → ℕ → ℕ → ℕ → ℕ → ℕ → ℕ → ℕ
product a b c d n u v = a ^ u * b ^ (n - u) * (c ^ v * d ^ (n - v))

swap-near : (all r s a b c d n u v m t : ℕ) → v ≡ u + m → v ≤ n → AreNear (r * (b * c) ^ m) (s * (t * (b * c) ^ m)) (s * (all * (a * d) ^ m))
    → AreNear (r * product a b c d n u v) (s * (t * product a b c d n u v)) (s * (all * product a b c d n v u))
swap-near all r s a b c d n u v m t more within near =
    let rest : n - u ≡ n - v + m = omega arith in
    let a_more : a ^ v ≡ a ^ u * a ^ m = ap (λ k. a ^ k) more ∙ pow-add a u m in
    let c_more : c ^ v ≡ c ^ u * c ^ m = ap (λ k. c ^ k) more ∙ pow-add c u m in
    let b_more : b ^ (n - u) ≡ b ^ (n - v) * b ^ m = ap (λ k. b ^ k) rest ∙ pow-add b (n - v) m in
    let d_more : d ^ (n - u) ≡ d ^ (n - v) * d ^ m = ap (λ k. d ^ k) rest ∙ pow-add d (n - v) m in
    let bc = mul-pow b c m in
    let ad = mul-pow a d m in
    let f = a ^ u * b ^ (n - v) * (c ^ u * d ^ (n - v)) in
    let one : product a b c d n u v ≡ f * (b * c) ^ m = rw (b_more, c_more, bc) (omega arith) in
    let other : product a b c d n v u ≡ f * (a * d) ^ m = rw (a_more, d_more, ad) (omega arith) in
    rw (one, other) (near-metropolis r s t all ((b * c) ^ m) ((a * d) ^ m) f near)

-- ---- the two sides

-- what the law asks of an entry, for any number of draws
pub record IsEntry (all r s a b c d : ℕ) (table : List (List ℕ)) (pair m : ℕ) : Type 0 where
  pub limited : swap_threshold table pair (m - 1) ≤ all
  pub near : AreNear (r * (b * c) ^ m) (s * (swap_threshold table pair (m - 1) * (b * c) ^ m)) (s * (all * (a * d) ^ m))

-- where the hotter slot has more
sides-more : (all r s a b c d n p q : ℕ) (table : List (List ℕ)) (pair : ℕ) → p % 2 ≡ q % 2 → p < q → q ≤ n → IsEntry all r s a b c d table pair (half_difference p q)
    → AreNear (r * max (product a b c d n (p / 2) (q / 2)) (product a b c d n (q / 2) (p / 2)))
    (s * (swaps all table pair p q * product a b c d n (p / 2) (q / 2))) (s * (swaps all table pair q p * product a b c d n (q / 2) (p / 2)))
sides-more all r s a b c d n p q table pair parity more within entry =
    let m = half_difference p q in
    let place : (q - p - 1) / 2 ≡ m - 1 = omega arith in
    let same = ap (swap_threshold table pair) place in
    let limited = entry.limited in
    let first : swaps all table pair p q ≡ swap_threshold table pair (m - 1) = swaps-some all table pair p q more (omega arith) ∙ same in
    let second = swaps-all all table pair q p (omega arith) in
    let w = product a b c d n (p / 2) (q / 2) in
    let x = product a b c d n (q / 2) (p / 2) in
    let near : AreNear (r * w) (s * (swap_threshold table pair (m - 1) * w)) (s * (all * x)) = swap-near all r s a b c d n (p / 2) (q / 2) m (swap_threshold table pair (m - 1)) (omega arith) (omega arith) entry.near in
    let greater : w ≤ max w x = omega arith in
    rw (first, second) (wider (r * w) (r * max w x) _ _ (mul-le-mul_left r greater) near)

sides : (all r s a b c d n p q : ℕ) (table : List (List ℕ)) (pair : ℕ) → p % 2 ≡ q % 2 → p ≤ n → q ≤ n → (1 ≤ half_difference p q → IsEntry all r s a b c d table pair (half_difference p q))
    → AreNear (r * max (product a b c d n (p / 2) (q / 2)) (product a b c d n (q / 2) (p / 2)))
    (s * (swaps all table pair p q * product a b c d n (p / 2) (q / 2))) (s * (swaps all table pair q p * product a b c d n (q / 2) (p / 2)))
sides all r s a b c d n p q table pair parity within within_too given = elim (cases_order p q) [
  | inl same ↦ near-same _ _ _ (ap (λ k. s * (swaps all table pair k q * product a b c d n (k / 2) (q / 2))) same ∙ ap (λ k. s * (swaps all table pair q k * product a b c d n (q / 2) (k / 2))) (sym same))
  | inr apart ↦ elim apart [
    | inl less ↦ sides-more all r s a b c d n p q table pair parity less within_too (given (omega arith))
    | inr more ↦
        let w = product a b c d n (p / 2) (q / 2) in
        let x = product a b c d n (q / 2) (p / 2) in
        let turned_round : half_difference p q ≡ half_difference q p = omega arith in
        let P : ℕ → Type 0 = λ k. IsEntry all r s a b c d table pair k in
        let near = sides-more all r s a b c d n q p table pair (sym parity) more within (subst P turned_round (given (omega arith))) in
        let greater : max x w ≡ max w x = omega arith in
        subst (λ (k : ℕ). AreNear (r * k) (s * (swaps all table pair p q * w)) (s * (swaps all table pair q p * x))) greater (other-way (r * max x w) _ _ near)
  ]
]

pub exchange-balances : (r s a b c d l : ℕ) (bonds : Bonds) (x y : List Bool) (table : List (List ℕ)) (pair : ℕ) → IsLawfulSize l
    → (1 ≤ half_difference (unsatisfied l bonds x) (unsatisfied l bonds y) → IsSwapEntry r s a b c d table pair (half_difference (unsatisfied l bonds x) (unsatisfied l bonds y)))
    → AreNear (r * max (pair_weight a b c d l bonds x y) (pair_weight a b c d l bonds y x))
    (s * (swaps (2 ^ 32) table pair (unsatisfied l bonds x) (unsatisfied l bonds y) * pair_weight a b c d l bonds x y))
    (s * (swaps (2 ^ 32) table pair (unsatisfied l bonds y) (unsatisfied l bonds x) * pair_weight a b c d l bonds y x))
exchange-balances r s a b c d l bonds x y table pair lawful given =
    sides (2 ^ 32) r s a b c d (bond_count l) (unsatisfied l bonds x) (unsatisfied l bonds y) table pair (unsatisfied-same l bonds x y lawful) (unsatisfied-small l bonds x) (unsatisfied-small l bonds y)
    (λ some. let e = given some in record { limited = e.limited; near = e.near })

pub exact-entries : (a b c d l : ℕ) (bonds : Bonds) (x y : List Bool) (table : List (List ℕ)) (pair : ℕ) → IsLawfulSize l
    → (1 ≤ half_difference (unsatisfied l bonds x) (unsatisfied l bonds y) → IsSwapEntry 0 1 a b c d table pair (half_difference (unsatisfied l bonds x) (unsatisfied l bonds y)))
    → swaps (2 ^ 32) table pair (unsatisfied l bonds x) (unsatisfied l bonds y) * pair_weight a b c d l bonds x y
    ≡ swaps (2 ^ 32) table pair (unsatisfied l bonds y) (unsatisfied l bonds x) * pair_weight a b c d l bonds y x
exact-entries a b c d l bonds x y table pair lawful given = exactly _ _ _ (exchange-balances 0 1 a b c d l bonds x y table pair lawful given)
