-- Bins of epochs by their powers of two, and classes of overlaps.
use Rattle.std.proofs.Common.{inl, inr, ◌≡◌, ℕ, zero, suc, ◌+◌, ◌^◌, ◌<◌, ◌≤◌, Bool, true, false, cond, ◌==◌, nat_le, ℤ, pos, refl, ap, subst, ◌∙◌, arith}
use Rattle.std.proofs.lemmas.Bool.{cases_Bool, leb-true, leb-false, le-leb}
use Rattle.std.proofs.Math.Pow.{pow_mono}
use Rattle.spin_model.specs.Words.{one_if}
use Rattle.spin_model.specs.Steps.{count_below}
use Rattle.spin_model.specs.SignedSums.{sum_of}
use Rattle.spin_model.proofs.Counts.{count-most}
use Rattle.measured_sums.specs.OverlapField.{total_overlap}
use Rattle.measured_sums.specs.EpochBins.{bin_of, class_of, epoch_digits, overlap_classes}
use Rattle.measured_sums.specs.MeasuredSums.{Observed, InClass, term_of}
use Rattle.measured_sums.proofs.SignedTerms.{terms-same, term-hit}

-- ---- bins

-- how many of the first n powers of two are at most f
abbrev digits : ℕ → ℕ → ℕ
digits f n = count_below (λ k. nat_le (2 ^ k) f) n

digits-more : (f n : ℕ) (b : Bool) → nat_le (2 ^ n) f ≡ b → digits f (suc n) ≡ digits f n + one_if b
unfolding count_below
digits-more f n b tested = ap (λ t. digits f n + one_if t) tested

digits-full : (f n : ℕ) → 2 ^ n ≤ f → digits f n ≡ n
unfolding count_below
digits-full f zero most = refl
digits-full f (suc n) most =
    let lower = pow_mono {i = n} {j = suc n} (omega arith) in
    digits-more f n true (le-leb (2 ^ n) f (omega arith)) ∙ ap (λ d. d + 1) (digits-full f n (omega arith)) ∙ omega arith

digits-low : (f n k : ℕ) → digits f n ≡ k + 1 → 2 ^ k ≤ f
unfolding count_below
digits-low f zero k is = absurd (omega arith)
digits-low f (suc n) k is = elim (cases_Bool (nat_le (2 ^ n) f)) [
  | inl passed ↦
      let more = digits-more f n true passed in
      let few = count-most (λ j. nat_le (2 ^ j) f) n in
      let power = leb-true (2 ^ n) f passed in
      let lower = pow_mono {i = k} {j = n} (omega arith) in
      omega arith
  | inr failed ↦ let more = digits-more f n false failed in digits-low f n k (omega arith)
]

digits-high : (f n : ℕ) → f < 2 ^ n → f < 2 ^ digits f n
unfolding count_below
digits-high f zero below = below
digits-high f (suc n) below = elim (cases_Bool (nat_le (2 ^ n) f)) [
  | inl passed ↦
      let all : digits f (suc n) ≡ suc n = digits-more f n true passed ∙ ap (λ d. d + 1) (digits-full f n (leb-true (2 ^ n) f passed)) ∙ omega arith in
      rw all below
  | inr failed ↦
      let same : digits f (suc n) ≡ digits f n = digits-more f n false failed ∙ omega arith in
      rw same (digits-high f n (leb-false (2 ^ n) f failed))
]

below-one : (f : ℕ) → f < 2 ^ 0 → f ≡ 0
below-one f below = omega arith

pub bins-digits : (f : ℕ) → f < 2 ^ epoch_digits → (bin_of f ≡ 0 → f ≡ 0) × ((k : ℕ) → bin_of f ≡ k + 1 → (2 ^ k ≤ f) × (f < 2 ^ (k + 1)))
bins-digits f below =
    let high = digits-high f epoch_digits below in (
      λ none. below-one f (subst (λ d. f < 2 ^ d) none high),
      λ k is. (digits-low f epoch_digits k is, subst (λ d. f < 2 ^ d) is high),
    )

-- ---- classes

class-below : (l : ℕ) (overlap : ℤ) → class_of l overlap < overlap_classes
class-below l overlap = omega arith

one-term : (b : Bool) → pos (one_if b) ≡ cond b (pos 1) (pos 0)
one-term true = refl
one-term false = refl

pub classes-add : (l : ℕ) (seen : Observed) → sum_of (λ c. term_of l seen (InClass c)) overlap_classes ≡ pos 1
classes-add l seen =
    let own = class_of l (total_overlap l seen.field) in
    terms-same (λ c. pos (one_if (own == c))) (λ c. cond (own == c) (pos 1) (pos 0)) overlap_classes (λ c below. one-term (own == c))
    ∙ term-hit (pos 1) own overlap_classes (class-below l (total_overlap l seen.field))
