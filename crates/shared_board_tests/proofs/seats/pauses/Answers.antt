-- No seat has other work than before.
use Rattle.shared_board_tests.proofs.Handing.{paused-first, paused-second}
use Rattle.shared_board_tests.proofs.seats.pauses.Goals as goal

pub returns-then-hand-clause-held : goal.returns-then-hand-clause-held
returns-then-hand-clause-held g c hs held = paused-second c.args.p.now c.args.q.now c.pause_by-pause.new.seat hs c.pause_by-pause.ensures.after held

pub returns-else-hand-clause-held : goal.returns-else-hand-clause-held
returns-else-hand-clause-held g c hs held =
    paused-first c.args.p.now c.args.q.now c.pause_by-pause-else-hand.new.seat hs c.pause_by-pause-else-hand.ensures.after held
