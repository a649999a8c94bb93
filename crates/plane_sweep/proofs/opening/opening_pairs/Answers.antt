use Rattle.std.proofs.Common.{◌≡◌, [], ◌∷◌, ◌++◌}
use Rattle.plane_sweep.proofs.Gathering.{each-none, each-pushed}
use Rattle.plane_sweep.proofs.opening.opening_pairs.Goals as goal

pub opened-init : goal.opened-init
opened-init c =
    let none : c.in_ok-pairs.pairs.items ≡ [] = c.in_ok-pairs.ensures.items in
    rw none (each-none _)

pub opened-preserved : goal.opened-preserved
opened-preserved c =
    let pushed : c.push.new.self.items ≡ c.opened.pairs.items ++ c.opening_pair.result ∷ [] = c.in_ok-push.ensures.items in
    rw pushed (each-pushed _ _ _ _ c.opened.invariant c.opening_pair.ensures)
