-- All classes are written.
use Rattle.std.proofs.Common.{pos, ◌∙◌, sym, arith}
use Rattle.spin_model.proofs.Tables.{table-of_items}
use Rattle.measured_sums.specs.MeasuredSums.{InClass}
use Rattle.plane_sums.specs.Bins.{sum_in}
use Rattle.sums_report.proofs.HeldTexts.{mapped}
use Rattle.sums_report.proofs.numbers.classes_of.Goals as goal

pub returns : goal.returns
returns c =
    let sum = sum_in c.args.bin.now c.args.b in
    table-of_items (λ k. sum (InClass k)) 32 (pos 0) c.classes.counts c.classes.invariant.long (λ k below. c.classes.invariant.written k (omega arith))
    ∙ sym (mapped sum InClass 32)
