-- A run's slots have the bins of its epochs, with as many epochs as are measured.
use Rattle.std.proofs.Common.{◌≡◌, pos, ap, ◌∙◌, arith}
use Rattle.std.proofs.lemmas.Int.{ints}
use Rattle.measured_sums.specs.MeasuredSums.{Number, epochs_in_bin}
use Rattle.measured_sums.proofs.BinRange.{bins-between}
use Rattle.measured_sums.proofs.Parts.{number-epochs}
use Rattle.plane_sums.specs.Bins.{bin_at}
use Rattle.sums_report.specs.HeldSums.{RunsHaveBins}

pub runs-have-bins : RunsHaveBins
runs-have-bins h plan start t slot begins first long have = record {
  all = λ k some.
      let between = bins-between h.every k h.from h.to some in
      let from = between.0 in
      let to = between.1 in
      (omega (arith, first, from), omega (arith, first, long, from, to));
  epochs = λ k from to.
      let held = have 0 k Number (omega arith) from to tt in
      let counted = number-epochs (plan 0) (start 0) h.every h.to t k in
      let whole : pos (bin_at slot k).epochs ≡ pos (epochs_in_bin h.every k h.from h.to) =
      held ∙ counted ∙ ap (λ c. pos (epochs_in_bin h.every k c h.to)) begins in
      omega (arith, ints, whole);
}
