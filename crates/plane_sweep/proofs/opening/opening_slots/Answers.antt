use Rattle.std.proofs.Common.{◌≡◌, [], ◌∷◌, ◌++◌}
use Rattle.plane_sweep.proofs.Gathering.{each-none, each-pushed}
use Rattle.plane_sweep.proofs.opening.opening_slots.Goals as goal

pub opened-init : goal.opened-init
opened-init c =
    let none : c.in_ok-slots.slots.items ≡ [] = c.in_ok-slots.ensures.items in
    rw none (each-none _)

pub opened-preserved : goal.opened-preserved
opened-preserved c =
    let pushed : c.push.new.self.items ≡ c.opened.slots.items ++ c.in_ok-opening_duo.field-0 ∷ [] = c.in_ok-push.ensures.items in
    rw pushed (each-pushed _ _ _ _ c.opened.invariant c.in_ok-opening_duo.ensures)
