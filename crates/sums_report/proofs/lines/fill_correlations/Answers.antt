-- The columns up to half the side are the sums at the distances.
use Rattle.std.proofs.Common.{◌%◌, ◌++◌, List, ℕ, codes, ap, ap₂, ◌∙◌, arith, ◌+◌, ◌/◌, ◌≤◌}
use Rattle.std.specs.Prelude.{ℤ}
use Rattle.measured_sums.specs.MeasuredSums.{Axes, Faces}
use Rattle.measured_sums.specs.SumsText.{numbers_line}
use Rattle.plane_sums.specs.Bins.{sum_in}
use Rattle.sums_report.proofs.HeldTexts.{column-shown}
use Rattle.sums_report.proofs.lines.fill_correlations.Goals as goal

pub returns : goal.returns
returns c =
    let at = c.args.place in
    let sum = sum_in c.args.bin.now (at.sample % 64) in
    let count = c.args.size / 2 + 1 in
    let few : count ≤ 33 = omega (arith, c.requires.size) in
    c.fill_numbers-2.ensures.value
    ∙ ap₂ (λ (line : List ℕ) (values : List ℤ). line ++ numbers_line (codes "face") at.sample at.slot at.bin values)
    (c.fill_numbers.ensures.value
    ∙ ap (λ (values : List ℤ). c.args.line.now ++ numbers_line (codes "axis") at.sample at.slot at.bin values)
    (column-shown sum Axes c.column_of.result count _ c.column_of.ensures.length c.column_of.ensures.value few (omega arith)))
    (column-shown sum Faces c.column_of-2.result count _ c.column_of-2.ensures.length c.column_of-2.ensures.value few (omega arith))
