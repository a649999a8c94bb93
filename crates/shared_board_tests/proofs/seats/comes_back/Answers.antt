-- The seat that hands a slot back has one less in work.
use Rattle.std.proofs.Common.{Bool, ◌∷◌, subst}
use Rattle.shared_board_tests.specs.Hands.{AreHeld}
use Rattle.shared_board_tests.proofs.Handing.{back-first, back-second}
use Rattle.shared_board_tests.proofs.seats.comes_back.Goals as goal

pub returns-then-hand-clause-held : goal.returns-then-hand-clause-held
returns-then-hand-clause-held g c hs held other =
    back-second c.args.p.now c.args.q.now c.comes_back_by.new.seat c.args.held.job hs c.comes_back_by.ensures.after
    (subst (λ (b : Bool). AreHeld ((b, c.args.held.job) ∷ hs) c.args.p.now c.args.q.now) c.if-hand.true held) other

pub returns-else-hand-clause-held : goal.returns-else-hand-clause-held
returns-else-hand-clause-held g c hs held other =
    back-first c.args.p.now c.args.q.now c.comes_back_by-else-hand.new.seat c.args.held.job hs c.comes_back_by-else-hand.ensures.after
    (subst (λ (b : Bool). AreHeld ((b, c.args.held.job) ∷ hs) c.args.p.now c.args.q.now) c.if-hand.false held) other
