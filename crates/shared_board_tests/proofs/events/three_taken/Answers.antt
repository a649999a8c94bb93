-- Three slots, in either order.
use Rattle.shared_board_tests.proofs.Handing.{swapped, first-last}
use Rattle.shared_board_tests.proofs.events.three_taken.Goals as goal

pub returns-then-slot-clause-held : goal.returns-then-slot-clause-held
returns-then-slot-clause-held g c = c.taken-c.ensures.held _ (c.two_taken-a.ensures.held _ c.requires.none)

pub returns-then-slot-2-clause-held : goal.returns-then-slot-2-clause-held
returns-then-slot-2-clause-held g c = swapped _ _ _ _ _ (c.taken-c.ensures.held _ (c.two_taken-a.ensures.held _ c.requires.none))

pub returns-else-slot-2-clause-held : goal.returns-else-slot-2-clause-held
returns-else-slot-2-clause-held g c = first-last _ _ _ _ _ (c.taken-c.ensures.held _ (c.two_taken-a.ensures.held _ c.requires.none))
