-- The seat that asks has one slot more in work.
use Rattle.std.proofs.Common.{Bool, ◌∷◌, sym, subst}
use Rattle.shared_board_tests.specs.Hands.{AreHeld}
use Rattle.shared_board_tests.proofs.Handing.{taken-first, taken-second}
use Rattle.shared_board_tests.proofs.seats.taken.Goals as goal

pub returns-then-hand-clause-held : goal.returns-then-hand-clause-held
returns-then-hand-clause-held g c hs held =
    let job = c.job_by-job in
    subst (λ (b : Bool). AreHeld ((b, job.result) ∷ hs) c.args.p.now job.new.seat) (sym c.if-hand.true)
    (taken-second c.args.p.now c.args.q.now job.new.seat job.result hs job.ensures.base job.ensures.after held)

pub returns-else-hand-clause-held : goal.returns-else-hand-clause-held
returns-else-hand-clause-held g c hs held =
    let job = c.job_by-job-else-hand in
    subst (λ (b : Bool). AreHeld ((b, job.result) ∷ hs) job.new.seat c.args.q.now) (sym c.if-hand.false)
    (taken-first c.args.p.now c.args.q.now job.new.seat job.result hs job.ensures.base job.ensures.after held)
