-- One slot more, and then another.
use Rattle.shared_board_tests.proofs.Handing.{swapped}
use Rattle.shared_board_tests.proofs.events.two_taken.Goals as goal

pub returns-then-slot-clause-held : goal.returns-then-slot-clause-held
returns-then-slot-clause-held g c hs held = c.taken-b.ensures.held _ (c.taken-a.ensures.held hs held)

pub returns-else-slot-clause-held : goal.returns-else-slot-clause-held
returns-else-slot-clause-held g c hs held = swapped _ _ _ _ _ (c.taken-b.ensures.held _ (c.taken-a.ensures.held hs held))
