-- Counts: of an interval, and by tests that differ at a few places; sums of equal terms.
use Rattle.std.proofs.Common.{inl, inr, ◌≡◌, ◌≢◌, ℕ, zero, suc, ◌+◌, ◌-◌, ◌*◌, ◌<◌, ◌≤◌, Bool, true, false, ◌==◌, if◌then◌else◌, ap, sym, ◌∙◌, refl, arith}
use Rattle.std.proofs.lemmas.Bool.{cases_lt, cases_eq, eq-eqb}
use Rattle.std.proofs.lemmas.Bool.Decides.{nat_tests}
use Rattle.finite_chance.specs.Sums.{sum_to}
use Rattle.spin_model.specs.Words.{one_if}
use Rattle.spin_model.specs.Steps.{count_below}
use Rattle.spin_model.proofs.Counts.{count-same}

pub unequal : (x y : ℕ) → x ≢ y → (x == y) ≡ false
unequal x y other = grind (arith, nat_tests)

-- of the numbers below n those from low on and below high pass
pub record IsBetween (t : ℕ → Bool) (low high n : ℕ) : Type 0 where
  pub under : (u : ℕ) → u < low → t u ≡ false
  pub inside : (u : ℕ) → low ≤ u → u < high → t u ≡ true
  pub over : (u : ℕ) → high ≤ u → u < n → t u ≡ false

pub count-between : (t : ℕ → Bool) (low high n k : ℕ) → low ≤ high → k ≤ n → IsBetween t low high n → count_below t k ≡ k - low - (k - high)
unfolding count_below
count-between t low high n zero order most b = omega arith
count-between t low high n (suc k) order most b =
    let before = count-between t low high n k order (omega arith) b in
    elim (cases_lt k low) [
      | inl less ↦ let last = ap one_if (b.under k less) in omega arith
      | inr past ↦ elim (cases_lt k high) [
        | inl within ↦ let last = ap one_if (b.inside k past within) in omega arith
        | inr more ↦ let last = ap one_if (b.over k more (omega arith)) in omega arith
      ]
    ]

pub count-all : (t : ℕ → Bool) (n : ℕ) → ((u : ℕ) → t u ≡ true) → count_below t n ≡ n
count-all t n every =
    let b : IsBetween t 0 n n = record { under = λ u low. absurd (omega arith); inside = λ u low high. every u; over = λ u high within. absurd (omega arith) } in
    let c = count-between t 0 n n n (omega arith) (omega arith) b in omega arith

pub count-none : (t : ℕ → Bool) (n : ℕ) → ((u : ℕ) → t u ≡ false) → count_below t n ≡ 0
count-none t n never =
    let b : IsBetween t 0 0 n = record { under = λ u low. never u; inside = λ u low high. absurd (omega arith); over = λ u high within. never u } in
    let c = count-between t 0 0 n n (omega arith) (omega arith) b in omega arith

-- a count whose test is one of two that never both hold
pub count-split : (t x y : ℕ → Bool) (n : ℕ) → ((k : ℕ) → one_if (t k) ≡ one_if (x k) + one_if (y k)) → count_below t n ≡ count_below x n + count_below y n
unfolding count_below
count-split t x y zero parts = refl
count-split t x y (suc n) parts =
    let before = count-split t x y n parts in
    let last = parts n in
    omega arith

-- ---- tests that differ at one place, and at several

count-one : (f g : ℕ → Bool) (a n : ℕ) → a < n → ((j : ℕ) → j < n → j ≢ a → f j ≡ g j) → count_below f n + one_if (g a) ≡ count_below g n + one_if (f a)
unfolding count_below
count-one f g a zero within same = absurd (omega arith)
count-one f g a (suc n) within same = elim (cases_lt a n) [
  | inl less ↦
      let before = count-one f g a n less (λ j below other. same j (omega arith) other) in
      let last = ap one_if (same n (omega arith) (omega arith)) in
      omega arith
  | inr not_less ↦
      let here : n ≡ a = omega arith in
      let before = count-same f g n (λ j below. same j (omega arith) (omega arith)) in
      let f_here = ap (λ j. one_if (f j)) here in
      let g_here = ap (λ j. one_if (g j)) here in
      omega arith
]

no-place : (p : ℕ → ℕ) (j m : ℕ) → j ≢ p m → ((k : ℕ) → k < m → j ≢ p k) → (k : ℕ) → k < suc m → j ≢ p k
no-place p j m last others k less e = elim (cases_lt k m) [
  | inl smaller ↦ others k smaller e
  | inr not ↦ let here : k ≡ m = omega arith in last (e ∙ ap p here)
]

pub count-places : (f g : ℕ → Bool) (p : ℕ → ℕ) (m n : ℕ) → ((k : ℕ) → k < m → p k < n) → ((j k : ℕ) → j < k → k < m → p j ≢ p k)
    → ((j : ℕ) → j < n → ((k : ℕ) → k < m → j ≢ p k) → f j ≡ g j)
    → count_below f n + count_below (λ k. g (p k)) m ≡ count_below g n + count_below (λ k. f (p k)) m
unfolding count_below
count-places f g p zero n within apart same = let e = count-same f g n (λ j below. same j below (λ k none. absurd (omega arith))) in omega arith
count-places f g p (suc m) n within apart same =
    let h : ℕ → Bool = λ j. if j == p m then g j else f j in
    let here : h (p m) ≡ g (p m) = ap (λ t. if t then g (p m) else f (p m)) (eq-eqb (p m) (p m) refl) in
    let off : (j : ℕ) → j ≢ p m → h j ≡ f j = λ j other. ap (λ t. if t then g j else f j) (unequal j (p m) other) in
    let first = count-one f h (p m) n (within m (omega arith)) (λ j below other. sym (off j other)) in
    let before = count-places h g p m n (λ k less. within k (omega arith)) (λ j k less last. apart j k less (omega arith))
    (λ j below others. elim (cases_eq j (p m)) [
      | inl at ↦ ap h at ∙ here ∙ ap g (sym at)
      | inr elsewhere ↦ off j elsewhere ∙ same j below (no-place p j m elsewhere others)
    ]) in
    let kept = count-same (λ k. h (p k)) (λ k. f (p k)) m (λ k less. off (p k) (apart k m less (omega arith))) in
    let value = ap one_if here in
    omega arith

-- ---- sums

-- x for each number that passes
pub sum-tested : (t : ℕ → Bool) (x n : ℕ) → sum_to n (λ u. one_if (t u) * x) ≡ count_below t n * x
unfolding sum_to count_below
sum-tested t x zero = omega arith
sum-tested t x (suc n) = let before = sum-tested t x n in omega arith
