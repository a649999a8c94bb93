-- Items and words of phase 1 have the same sums.
use Rattle.turn_cell.proofs.Wording.{items-in_work, work-one_seat}
use Rattle.turn_cell.proofs.laws.each_item_in_work_has_one_seat.Goals as goal

pub returns-clause-word : goal.returns-clause-word
returns-clause-word g c = items-in_work g.V.Kept.origin g.V.Kept.marks

pub returns-clause-one : goal.returns-clause-one
returns-clause-one g c = work-one_seat g.V.Kept.origin g.V.Kept.marks
