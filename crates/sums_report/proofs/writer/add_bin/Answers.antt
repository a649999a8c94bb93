-- A bin with an epoch is shown.
use Rattle.std.proofs.Common.{◌%◌, ◌<◌, ◌++◌, List, ℕ, ap, sym, ◌∙◌}
use Rattle.glass_edges.proofs.Writing.{fronts-same}
use Rattle.measured_sums.specs.SumsText.{bin_lines}
use Rattle.plane_sums.specs.Bins.{bin_at, sum_in}
use Rattle.plane_sums.specs.declared.epoch_bins.BinSums.{BinSums}
use Rattle.sums_report.specs.HeldSums.{heading_of, sums_of_slot}
use Rattle.sums_report.proofs.HeldTexts.{bin-shown}
use Rattle.sums_report.proofs.writer.add_bin.Goals as goal

pub returns-then-is_measured : goal.returns-then-is_measured
returns-then-is_measured g c =
    let sums = c.args.sums.now in
    let at = c.args.place in
    let l = c.args.head.now.size in
    let lines = bin_lines l at.sample at.slot at.bin (sums_of_slot sums at.sample at.bin) in
    let places = c.has_bin.ensures.0 c.if-has_bin.true in
    let some : 0 < (bin_at sums at.bin).epochs = rw c.bin-bin.ensures at c.if-is_measured.true in
    fronts-same
    (ap (λ (b : BinSums). c.args.line.now ++ bin_lines l at.sample at.slot at.bin (sum_in b (at.sample % 64))) c.bin-bin.ensures
    ∙ ap (λ (xs : List ℕ). c.args.line.now ++ xs) (sym (bin-shown (heading_of c.args.head.now) sums at.bin lines c.requires.bins places.0 places.1 some)))
    c.add_bin_lines.ensures
