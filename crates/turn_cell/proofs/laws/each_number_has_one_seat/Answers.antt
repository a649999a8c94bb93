-- The seats' numbers have the sum of those below the total.
use Rattle.turn_cell.proofs.Wording.{numbers-one_seat}
use Rattle.turn_cell.proofs.laws.each_number_has_one_seat.Goals as goal

pub returns : goal.returns
returns g c = numbers-one_seat g.V.Kept.origin g.V.Kept.marks
