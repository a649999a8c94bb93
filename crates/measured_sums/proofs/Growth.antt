-- The sums of a slot while a run goes on.
use Rattle.std.proofs.Common.{◌≡◌, ℕ, zero, suc, ◌+◌, ◌-◌, ◌≤◌, Bool, true, false, cond, ◌&&◌, ◌==◌, ℤ, pos, ◌+ℤ◌, refl, ap, ◌∙◌, arith}
use Rattle.std.proofs.Math.IntN.{+ℤ_idr}
use Rattle.spin_model.specs.SignedSums.{sum_of}
use Rattle.scalar_rule.specs.Plan.{Plan}
use Rattle.scalar_rule.specs.Records.{is_recorded}
use Rattle.scalar_rule.specs.Serial.{serial}
use Rattle.scalar_rule.specs.declared.sample.Sample.{Sample}
use Rattle.measured_sums.specs.EpochBins.{bin_of}
use Rattle.measured_sums.specs.MeasuredSums.{Quantity, bin_sum, is_measured, observed, term_of}
use Rattle.measured_sums.specs.RunningSums.{behind_epoch, no_sums, sums_below}

none-yet : (f : ℕ → ℤ) (n : ℕ) → n ≡ 0 → sum_of f n ≡ pos 0
unfolding sum_of
none-yet f zero same = refl
none-yet f (suc n) same = absurd (omega arith)

pub sums-begin : (plan : Plan) (s : Sample) (every t k : ℕ) (quantity : Quantity) → sums_below plan s every t s.epoch k quantity ≡ no_sums k quantity
sums-begin plan s every t k quantity =
    let term = λ (f : ℕ). term_of plan.size (observed plan (serial plan s f) t) quantity in
    none-yet (λ j. cond (is_measured every k (s.epoch + j)) (term (s.epoch + j)) (pos 0)) (s.epoch - s.epoch) (omega arith)

-- a term more, where both tests hold
kept : (recorded own : Bool) (sum z : ℤ) → sum +ℤ cond (recorded && own) z (pos 0) ≡ cond recorded (cond own (sum +ℤ z) sum) sum
kept true true sum z = refl
kept true false sum z = +ℤ_idr sum
kept false own sum z = +ℤ_idr sum

more : (f : ℕ → ℤ) (n m : ℕ) → m ≡ suc n → sum_of f m ≡ sum_of f n +ℤ f n
unfolding sum_of
more f n m same = ap (sum_of f) same

bin-grows : (term : ℕ → ℤ) (every k c e : ℕ) → c ≤ e
    → bin_sum term every k c (e + 1) ≡ cond (is_recorded every e) (cond (bin_of e == k) (bin_sum term every k c e +ℤ term e) (bin_sum term every k c e)) (bin_sum term every k c e)
bin-grows term every k c e from =
    let at = λ (f : ℕ). cond (is_measured every k f) (term f) (pos 0) in
    let one = more (λ j. at (c + j)) (e - c) (e + 1 - c) (omega arith) in
    let here = ap at (let place : c + (e - c) ≡ e = omega arith in place) in
    one ∙ ap (λ z. bin_sum term every k c e +ℤ z) here ∙ kept (is_recorded every e) (bin_of e == k) (bin_sum term every k c e) (term e)

pub sums-grow : (plan : Plan) (s : Sample) (every t e k : ℕ) (quantity : Quantity) → s.epoch ≤ e
    → sums_below plan s every t (e + 1) k quantity ≡ behind_epoch every plan.size e (observed plan (serial plan s e) t) (sums_below plan s every t e) k quantity
sums-grow plan s every t e k quantity from = bin-grows (λ f. term_of plan.size (observed plan (serial plan s f) t) quantity) every k s.epoch e from
