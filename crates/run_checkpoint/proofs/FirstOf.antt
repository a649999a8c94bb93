-- The first of some places that a test refuses, and whether one of some numbers passes.
use Rattle.std.proofs.Common.{◌≡◌, ℕ, zero, suc, ◌+◌, ◌<◌, ◌≤◌, Bool, true, false, ◌||◌, Option, Some, None, refl, sym, ◌∙◌, arith, inl, inr, add-one}
use Rattle.std.proofs.lemmas.Bool.{cases_lt, cases_Bool, or_cases, or_right}
use Rattle.glass_edges.specs.Refusals.{first_of}
use Rattle.run_checkpoint.specs.Tests.{some_below}
use Rattle.glass_edges.proofs.FirstRefusals.{or-none}

-- ---- the first of some places

pub first-found : {E : Type 0} (f : ℕ → Option E) (k n : ℕ) (e : E) (total : Option E) → 0 < n → Some e ≡ f k → first_of f k n ≡ total → Some e ≡ total
unfolding first_of
first-found f k zero e total lt found so_far = absurd (omega arith)
first-found f k (suc n) e total lt found so_far = sym (rw (← found) refl) ∙ so_far

pub first-more : {E : Type 0} (f : ℕ → Option E) (k n m : ℕ) (total : Option E) → n ≡ suc m → None ≡ f k → first_of f k n ≡ total → first_of f (k + 1) m ≡ total
unfolding first_of
first-more f k n m total e none so_far =
    let step : first_of f k n ≡ first_of f (k + 1) m = rw (e, ← none) refl in
    sym step ∙ so_far

pub first-none : {E : Type 0} (f : ℕ → Option E) (k n : ℕ) (total : Option E) → n ≡ 0 → first_of f k n ≡ total → None ≡ total
unfolding first_of
first-none f k n total e so_far = let step : first_of f k n ≡ None = rw e refl in sym step ∙ so_far

pub first-all : {E : Type 0} (f : ℕ → Option E) (k n : ℕ) → None ≡ first_of f k n → (j : ℕ) → k ≤ j → j < k + n → None ≡ f j
unfolding first_of
first-all f k zero e j ge lt = absurd (omega arith)
first-all f k (suc n) e j ge lt =
    let both = or-none (f k) (first_of f (k + 1) n) e in
    elim (cases_lt k j) [
      | inl later ↦ first-all f (k + 1) n both.1 j (omega arith) (omega arith)
      | inr here ↦ let is : j ≡ k = omega arith in rw is both.0
    ]

pub all-none : {E : Type 0} (f : ℕ → Option E) (k n : ℕ) → ((j : ℕ) → k ≤ j → j < k + n → None ≡ f j) → None ≡ first_of f k n
unfolding first_of
all-none f k zero none = refl
all-none f k (suc n) none = rw (← none k (omega arith) (omega arith)) (all-none f (k + 1) n (λ j ge lt. none j (omega arith) (omega arith)))

-- ---- tests below a number

pub some-found : (p : ℕ → Bool) (n k : ℕ) → k < n → p k ≡ true → some_below p n ≡ true
unfolding some_below
some-found p zero k lt passes = absurd (omega arith)
some-found p (suc n) k lt passes = elim (cases_lt k n) [
  | inl below ↦ rw (some-found p n k below passes) refl
  | inr above ↦ let e : n ≡ k = omega arith in rw (e, passes) (or_right (some_below p k) true refl)
]

pub is-true : (a b : Bool) → b ≡ true → true ≡ (a || b)
is-true a b found = sym (or_right a b found)

pub some-none : (p : ℕ → Bool) → some_below p 0 ≡ false
unfolding some_below
some-none p = refl

pub some-more : (p : ℕ → Bool) (n : ℕ) → some_below p n ≡ false → p n ≡ false → some_below p (n + 1) ≡ false
unfolding some_below
some-more p n so_far fails = rw (add-one, some_below, so_far, fails) refl

pub none-below : (p : ℕ → Bool) (n k : ℕ) → some_below p n ≡ false → k < n → p k ≡ false
none-below p n k none lt = elim (cases_Bool (p k)) [
  | inl passes ↦ let found : some_below p n ≡ true = some-found p n k lt passes in absurd cc
  | inr fails ↦ fails
]

pub found-below : (p : ℕ → Bool) (n : ℕ) → some_below p n ≡ true → (k : ℕ) × (k < n) × (p k ≡ true)
unfolding some_below
found-below p zero e = absurd cc
found-below p (suc n) e = elim (or_cases (some_below p n) (p n) e) [
  | inl found ↦ let k = found-below p n found in (k.0, omega arith, k.2)
  | inr passes ↦ (n, omega arith, passes)
]

pub all-fail : (p : ℕ → Bool) (n : ℕ) → ((k : ℕ) → k < n → p k ≡ false) → some_below p n ≡ false
unfolding some_below
all-fail p zero fails = refl
all-fail p (suc n) fails = rw (all-fail p n (λ k lt. fails k (omega arith)), fails n (omega arith)) refl
