-- Sums over the epochs of a run, in parts.
use Rattle.std.proofs.Common.{◌≡◌, ℕ, zero, suc, ◌+◌, ◌-◌, ◌≤◌, Bool, true, false, cond, ℤ, pos, ◌+ℤ◌, refl, ap, ap₂, sym, ◌∙◌, arith}
use Rattle.spin_model.specs.Words.{one_if}
use Rattle.spin_model.specs.Steps.{count_below}
use Rattle.spin_model.specs.SignedSums.{sum_of}
use Rattle.spin_model.proofs.Counts.{count-same}
use Rattle.scalar_rule.specs.Plan.{Plan}
use Rattle.scalar_rule.specs.Serial.{serial}
use Rattle.scalar_rule.specs.declared.sample.Sample.{Sample}
use Rattle.scalar_rule.proofs.Resuming.{epoch-serial, serial-serial}
use Rattle.measured_sums.specs.MeasuredSums.{Quantity, Number, bin_sum, epochs_in_bin, is_measured, observed, sum_from, term_of}
use Rattle.measured_sums.proofs.SignedTerms.{terms-same, terms-range}

-- ---- the number of epochs

one-more : (b : Bool) → cond b (pos 1) (pos 0) ≡ pos (one_if b)
one-more true = refl
one-more false = refl

pub ones-counted : (test : ℕ → Bool) (n : ℕ) → sum_of (λ j. cond (test j) (pos 1) (pos 0)) n ≡ pos (count_below test n)
unfolding sum_of count_below
ones-counted test zero = refl
ones-counted test (suc n) = ap₂ (λ a b. a +ℤ b) (ones-counted test n) (one-more (test n))

pub number-epochs : (plan : Plan) (s : Sample) (every e t k : ℕ) → sum_from plan s every e t k Number ≡ pos (epochs_in_bin every k s.epoch e)
number-epochs plan s every e t k = ones-counted (λ j. is_measured every k (s.epoch + j)) (e - s.epoch)

count-range : (test : ℕ → Bool) (n m : ℕ) → count_below test (n + m) ≡ count_below test n + count_below (λ j. test (n + j)) m
unfolding count_below
count-range test n zero = let none : n + 0 ≡ n = omega arith in ap (count_below test) none ∙ omega arith
count-range test n (suc m) =
    let more : n + suc m ≡ suc (n + m) = omega arith in
    ap (count_below test) more ∙ ap (λ s. s + one_if (test (n + m))) (count-range test n m) ∙ omega arith

pub epochs-add : (every k c m e : ℕ) → c ≤ m → m ≤ e → epochs_in_bin every k c m + epochs_in_bin every k m e ≡ epochs_in_bin every k c e
epochs-add every k c m e from to =
    let test = λ (j : ℕ). is_measured every k (c + j) in
    let whole : e - c ≡ m - c + (e - m) = omega arith in
    let later = count-same (λ j. test (m - c + j)) (λ j. is_measured every k (m + j)) (e - m)
    (λ j below. ap (is_measured every k) (let place : c + (m - c + j) ≡ m + j = omega arith in place)) in
    sym (ap (count_below test) whole ∙ count-range test (m - c) (e - m) ∙ ap (λ n. count_below test (m - c) + n) later)

-- ---- sums

bins-add : (term : ℕ → ℤ) (every k c m e : ℕ) → c ≤ m → m ≤ e → bin_sum term every k c m +ℤ bin_sum term every k m e ≡ bin_sum term every k c e
bins-add term every k c m e from to =
    let at = λ (f : ℕ). cond (is_measured every k f) (term f) (pos 0) in
    let whole : e - c ≡ m - c + (e - m) = omega arith in
    let later = terms-same (λ j. at (c + (m - c + j))) (λ j. at (m + j)) (e - m)
    (λ j below. ap at (let place : c + (m - c + j) ≡ m + j = omega arith in place)) in
    sym (ap (sum_of (λ j. at (c + j))) whole ∙ terms-range (λ j. at (c + j)) (m - c) (e - m)
    ∙ ap (λ z. sum_of (λ j. at (c + j)) (m - c) +ℤ z) later)

bins-same : (f g : ℕ → ℤ) (every k c e : ℕ) → ((j : ℕ) → c ≤ j → f j ≡ g j) → bin_sum f every k c e ≡ bin_sum g every k c e
bins-same f g every k c e same =
    terms-same (λ j. cond (is_measured every k (c + j)) (f (c + j)) (pos 0)) (λ j. cond (is_measured every k (c + j)) (g (c + j)) (pos 0)) (e - c)
    (λ j below. ap (λ z. cond (is_measured every k (c + j)) z (pos 0)) (same (c + j) (omega arith)))

pub parts-add : (plan : Plan) (s : Sample) (every m e t k : ℕ) (quantity : Quantity) → s.epoch ≤ m → m ≤ e
    → sum_from plan s every m t k quantity +ℤ sum_from plan (serial plan s m) every e t k quantity ≡ sum_from plan s every e t k quantity
parts-add plan s every m e t k quantity from to =
    let whole = λ (f : ℕ). term_of plan.size (observed plan (serial plan s f) t) quantity in
    let later = λ (f : ℕ). term_of plan.size (observed plan (serial plan (serial plan s m) f) t) quantity in
    let here = ap (λ c. bin_sum later every k c e) (epoch-serial plan s m from) in
    let same = bins-same later whole every k m e (λ f past. ap (λ r. term_of plan.size (observed plan r t) quantity) (serial-serial plan s m f from past)) in
    ap (λ z. bin_sum whole every k s.epoch m +ℤ z) (here ∙ same) ∙ bins-add whole every k s.epoch m e from to
