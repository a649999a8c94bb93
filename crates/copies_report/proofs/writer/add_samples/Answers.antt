-- The sums of a sample's bank are held, so its lines are those of the states.
use Rattle.std.proofs.Common.{◌≡◌, ℕ, ◌+◌, ◌/◌, ◌++◌, List, refl, ap, subst, ◌∙◌, arith}
use Rattle.glass_edges.proofs.Writing.{fronts-none, fronts-more, fronts-stopped, fronts-same}
use Rattle.spin_model.proofs.Joined.{joined-zero, joined-more, joined-at}
use Rattle.copies_report.specs.Held.{HoldCopies}
use Rattle.copies_report.specs.States.{bank_at, heading_of}
use Rattle.copies_report.proofs.Printed.{bank-slots, sample-shown}
use Rattle.copies_report.proofs.writer.add_samples.Goals as goal

pub samples-init : goal.samples-init
samples-init g c = record { added = fronts-none (joined-zero _ _); held = λ apart. absurd (apart refl); long = refl }

pub samples-preserved : goal.samples-preserved
samples-preserved g c =
    let h = heading_of c.args.head.now in
    let first = c.args.first.now in
    let second = c.args.second.now in
    let b = c.samples.b in
    let shown = ap (λ (xs : List ℕ). c.samples.line ++ xs)
    (sample-shown h first second b (bank-slots h first b c.requires.first c.samples-test.true).count (bank-slots h second b c.requires.second c.samples-test.true).count) in
    record {
      added = fronts-more _ _ _ c.samples.invariant.added (fronts-same shown (c.in_ok-add_sample.ensures _ _ c.hold_bank.ensures.held)) (joined-more _ _ b);
      held = λ apart.
          let same : b / 64 ≡ (b + 1) / 64 = omega (arith, apart) in
          subst (λ (n : ℕ). HoldCopies h.size (bank_at first n).slots (bank_at second n).slots c.hold_bank.new.room h.slots) same c.hold_bank.ensures.held;
      long = c.hold_bank.ensures.long ∙ c.samples.invariant.long;
    }

pub returns-in_err-add_sample : goal.returns-in_err-add_sample
returns-in_err-add_sample g c =
    let h = heading_of c.args.head.now in
    let first = c.args.first.now in
    let second = c.args.second.now in
    let b = c.samples.b in
    let shown = ap (λ (xs : List ℕ). c.samples.line ++ xs)
    (sample-shown h first second b (bank-slots h first b c.requires.first c.samples-test.true).count (bank-slots h second b c.requires.second c.samples-test.true).count) in
    fronts-stopped _ _ _ _ c.from_residual.ensures.0 c.samples.invariant.added (fronts-same shown (c.in_err-add_sample.ensures _ _ c.hold_bank.ensures.held))
    (joined-at _ _ b _ c.samples-test.true)
