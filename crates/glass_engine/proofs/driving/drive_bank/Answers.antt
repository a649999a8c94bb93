-- All workers are back, and the board is at its end.
use Rattle.std.proofs.Common.{rules, ◌≡◌, List, length, ap, sym, subst, ◌∙◌}
use Rattle.shared_board.specs.Shared.{lock_id}
use Rattle.turn_cell.specs.Seats.{AreOpened}
use Rattle.glass_engine.specs.Runs.{RunView}
use Rattle.glass_engine.specs.Working.{Seat, HaveLeft}
use Rattle.glass_engine.proofs.Leaving.{rest-opened, run-idle, run-origin, run-ended}
use Rattle.glass_engine.proofs.Driven.{HasEnded, run-ends, done-keeps, run-stays}
use Rattle.glass_engine.proofs.driving.drive_bank.Goals as goal
use Rattle.glass_engine.proofs.driving.drive_bank.Goals.{After-work_all, In-Ok}

pub work_all-requires-clause-rest : goal.work_all-requires-clause-rest
work_all-requires-clause-rest g c κs within =
    let r = c.run.inside in
    let o = r.opened.value.origin in
    rest-opened (lock_id r.board) c.args.plan.now o _ _ 0 c.as_mut_slice.result.now (ap (λ (x : RunView). x.plan) c.run.view_is ∙ sym c.requires.plan)
    (subst (AreOpened (lock_id r.board) o (length r.opened.value.places) (length r.seats.items) 0) (sym c.as_mut_slice.ensures.value) c.run.invariant.seats)

-- the workers left the seats that the run had
left : (g : _) (c : After-work_all g) → HaveLeft (lock_id c.run.inside.board) c.args.plan.now c.run.inside.seats.items c.work_all.new.seats
left g c =
    let L : List Seat → Type 0 = λ l. HaveLeft (lock_id c.run.inside.board) c.args.plan.now l c.work_all.new.seats in
    subst L c.as_mut_slice.ensures.value c.work_all.ensures

whole : (g : _) (c : After-work_all g) → c.run.inside.seats.len ≡ length c.run.inside.seats.items
whole g c = search rules

pub close-requires-clause-idle : goal.close-requires-clause-idle
close-requires-clause-idle g c =
    let d = (goal.at.close-requires-clause-idle g c).After-work_all in
    run-idle c.run.inside c.args.plan.now c.work_all.new.seats c.run.invariant (whole g d) (left g d)

-- the board that was closed is the one that was opened
base : (g : _) (c : In-Ok g) → c.close.result.origin ≡ c.run.inside.opened.value.origin
base g c =
    let w = (goal.at.In-Ok g c).After-work_all in
    run-origin c.run.inside c.args.plan.now c.work_all.new.seats c.run.invariant (whole g w) (left g w) c.close.result c.close.ensures.base

-- and is at its end
over : (g : _) (c : In-Ok g) → HasEnded c.close.result c.in-Ok.ended
over g c =
    let w = (goal.at.In-Ok g c).After-work_all in
    run-ended c.run.inside c.args.plan.now c.work_all.new.seats c.run.invariant (whole g w) (left g w) c.close.result c.in-Ok.ended c.close.ensures.base c.close.ensures.seen c.in-Ok.ensures.places c.in-Ok.ensures.stopped

pub invariant_of-result : goal.invariant_of-result
invariant_of-result g c =
    let at = (goal.at.invariant_of-result g c).In-Ok in
    done-keeps c.run.inside c.close.result c.in-Ok.ended c.run.invariant (base g at) (over g at)

pub returns-clause-run : goal.returns-clause-run
returns-clause-run g c =
    run-stays c.run.inside c.in-Ok.ended (c.in-Ok.ensures.stopped.same ∙ base g (goal.at.returns-clause-run g c).In-Ok) ∙ c.run.view_is

pub returns-clause-ended : goal.returns-clause-ended
returns-clause-ended g c =
    let at = (goal.at.returns-clause-ended g c).In-Ok in
    rw (← c.run.view_is) (run-ends c.run.inside c.close.result c.in-Ok.ended c.run.invariant (base g at) (over g at))
