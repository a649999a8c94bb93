-- Sums over the numbers below a bound: term by term, in the other order, and over a permutation.
use Rattle.std.proofs.Common.{inl, inr, ◌≡◌, ℕ, zero, suc, ◌+◌, ◌*◌, ◌%◌, ◌<◌, ◌≤◌, Bool, false, cond, ◌==◌, refl, ap, sym, ◌∙◌, arith}
use Rattle.std.proofs.lemmas.Bool.{cases_lt, eqb-true, eq-eqb}
use Rattle.std.proofs.lemmas.Bool.Decides.{nat_tests, same_from_decides, Decides-eqb}
use Rattle.spin_model.specs.Words.{one_if}
use Rattle.spin_model.specs.Steps.{count_below}
use Rattle.scalar_rule.specs.Positions.{sum_below}
use Rattle.scalar_rule.proofs.Extremes.{sum-same}

pub count-sum : (t : ℕ → Bool) (n : ℕ) → count_below t n ≡ sum_below (λ i. one_if (t i)) n
unfolding sum_below count_below
count-sum t zero = refl
count-sum t (suc n) = ap (λ k. k + one_if (t n)) (count-sum t n)

pub sum-add : (f g : ℕ → ℕ) (n : ℕ) → sum_below (λ i. f i + g i) n ≡ sum_below f n + sum_below g n
unfolding sum_below
sum-add f g zero = refl
sum-add f g (suc n) = let before = sum-add f g n in omega arith

sum-zero : (n : ℕ) → sum_below (λ i. 0) n ≡ 0
unfolding sum_below
sum-zero zero = refl
sum-zero (suc n) = let before = sum-zero n in omega arith

sum-swap : (h : ℕ → ℕ → ℕ) (n m : ℕ) → sum_below (λ i. sum_below (h i) m) n ≡ sum_below (λ j. sum_below (λ i. h i j) n) m
unfolding sum_below
sum-swap h zero m = sym (sum-zero m)
sum-swap h (suc n) m = ap (λ k. k + sum_below (h n) m) (sum-swap h n m) ∙ sym (sum-add (λ j. sum_below (λ i. h i j) n) (h n) m)

-- of a sum with one term
sum-miss : (h : ℕ → ℕ) (c n : ℕ) → n ≤ c → sum_below (λ j. cond (j == c) (h j) 0) n ≡ 0
unfolding sum_below
sum-miss h c zero past = refl
sum-miss h c (suc n) past =
    let before = sum-miss h c n (omega arith) in
    let other : (n == c) ≡ false = grind (arith, nat_tests) in
    let last : cond (n == c) (h n) 0 ≡ 0 = ap (λ b. cond b (h n) 0) other in
    omega arith

sum-hit : (h : ℕ → ℕ) (c n : ℕ) → c < n → sum_below (λ j. cond (j == c) (h j) 0) n ≡ h c
unfolding sum_below
sum-hit h c zero below = absurd (omega arith)
sum-hit h c (suc n) below = elim (cases_lt c n) [
  | inl less ↦
      let before = sum-hit h c n less in
      let other : (n == c) ≡ false = grind (arith, nat_tests) in
      let last : cond (n == c) (h n) 0 ≡ 0 = ap (λ b. cond b (h n) 0) other in
      omega arith
  | inr not ↦
      let here : n ≡ c = omega arith in
      let before = sum-miss h c n (omega arith) in
      let last : cond (n == c) (h n) 0 ≡ h c = ap (λ b. cond b (h n) 0) (eq-eqb n c here) ∙ ap h here in
      omega arith
]

-- f and g undo each other below n
pub record ArePermutation (f g : ℕ → ℕ) (n : ℕ) : Type 0 where
  pub on : (i : ℕ) → i < n → f i < n
  pub back : (i : ℕ) → i < n → g i < n
  pub undone : (i : ℕ) → i < n → g (f i) ≡ i
  pub redone : (i : ℕ) → i < n → f (g i) ≡ i

tests-turn : (f g : ℕ → ℕ) (n i j : ℕ) → ArePermutation f g n → i < n → j < n → (j == f i) ≡ (i == g j)
tests-turn f g n i j p below within =
    same_from_decides (j == f i) (i == g j) (Decides-eqb j (f i))
    ((λ t. sym (ap f (eqb-true i (g j) t) ∙ p.redone j within)), (λ (e : j ≡ f i). eq-eqb i (g j) (sym (ap g e ∙ p.undone i below))))

pub sum-permuted : (h f g : ℕ → ℕ) (n : ℕ) → ArePermutation f g n → sum_below (λ i. h (f i)) n ≡ sum_below h n
sum-permuted h f g n p =
    sum-same (λ i. h (f i)) (λ i. sum_below (λ j. cond (j == f i) (h j) 0) n) n (λ i below. sym (sum-hit h (f i) n (p.on i below)))
    ∙ sum-swap (λ i j. cond (j == f i) (h j) 0) n n
    ∙ sum-same (λ j. sum_below (λ i. cond (j == f i) (h j) 0) n) h n (λ j within.
    sum-same (λ i. cond (j == f i) (h j) 0) (λ i. cond (i == g j) (h j) 0) n (λ i below. ap (λ b. cond b (h j) 0) (tests-turn f g n i j p below within))
    ∙ sum-hit (λ i. h j) (g j) n (p.back j within))

-- three terms at a time
pub sum-thirds : (h : ℕ → ℕ) (n : ℕ) → sum_below h (3 * n) ≡ sum_below (λ i. h (3 * i)) n + sum_below (λ i. h (suc (3 * i))) n + sum_below (λ i. h (suc (suc (3 * i)))) n
unfolding sum_below
sum-thirds h zero = refl
sum-thirds h (suc n) =
    let before = sum-thirds h n in
    let three : 3 * suc n ≡ suc (suc (suc (3 * n))) = omega arith in
    rw three (omega arith)

-- terms that are even have an even sum
pub sum-even : (h : ℕ → ℕ) (n : ℕ) → ((i : ℕ) → i < n → h i % 2 ≡ 0) → sum_below h n % 2 ≡ 0
unfolding sum_below
sum-even h zero even = refl
sum-even h (suc n) even =
    let before = sum-even h n (λ i below. even i (omega arith)) in
    let last = even n (omega arith) in
    omega arith
