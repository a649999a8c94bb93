-- The seats that were popped are gathered in one.
use Rattle.std.proofs.Common.{length}
use Rattle.turn_cell.specs.Seats.{cell_id}
use Rattle.turn_cell.proofs.Ending.{IsGathering}
use Rattle.turn_cell.proofs.cell.TurnCell.gather.Given as goal

abbrev pub invariant-loop-other : goal.invariant-loop-other
invariant-loop-other g l = IsGathering (cell_id l.self) l.fn.passes.items l.passes.items l.kept

abbrev pub decreases-loop-other : goal.decreases-loop-other
decreases-loop-other g l = length l.passes.items
