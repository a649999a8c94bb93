use Rattle.std.proofs.Common.{rules, ◌≡◌, ◌*◌, List, replicate, sym, subst}
use Rattle.plane_sweep.specs.Beginnings.{Each, BeginsPlane}
use Rattle.plane_sweep.specs.declared.replica.Plane.{Plane}
use Rattle.plane_sweep.proofs.BeginningStates.{begins-replica}
use Rattle.plane_sweep.proofs.opening.opening_replica.Goals as goal

pub returns : goal.returns
returns c =
    let plan = c.args.plan.now in
    let labels : c.labels_of.result ≡ replicate 64 c.args.beginning.slot = search rules in
    let All_planes : List Plane → Type 0 = λ xs. Each (BeginsPlane plan c.args.beginning.start c.args.beginning.bank c.args.beginning.slot c.args.beginning.replica) (2 * plan.size) xs in
    begins-replica plan c.args.beginning.start c.args.beginning.bank c.args.beginning.slot c.args.beginning.replica c.of.result c.labels_of.result c.slots.ensures.lawful.size
    (subst All_planes (sym c.of.ensures) c.in_ok-push_colour-2.ensures)
    labels
