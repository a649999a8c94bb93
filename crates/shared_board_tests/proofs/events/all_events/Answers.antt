-- Slot 2 is the last one in work.
use Rattle.shared_board_tests.proofs.events.all_events.Goals as goal

pub returns-clause-none : goal.returns-clause-none
returns-clause-none g c = c.comes_back.ensures.held _ c.later_epochs.ensures.held tt
