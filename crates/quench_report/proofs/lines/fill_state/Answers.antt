-- What was added, one after the other, is the line.
use Rattle.std.proofs.Common.{append_assoc, refl}
use Rattle.quench_report.specs.Numbers.{state_numbers}
use Rattle.quench_report.proofs.lines.fill_state.Goals as goal

pub returns : goal.returns
unfolding state_numbers
returns c =
    rw (c.add-4.ensures, c.fill_distances.ensures.value, c.size.ensures.value, c.add_number-3.ensures.value, c.add_number-2.ensures.value, c.add_number.ensures.value, c.number-3.ensures.value, c.add-3.ensures, c.number-2.ensures.value, c.add-2.ensures, c.number.ensures.value, c.add.ensures)
    (simp append_assoc refl)
