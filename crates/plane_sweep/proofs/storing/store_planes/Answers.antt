use Rattle.std.proofs.Common.{◌≡◌, ℕ, ◌*◌, subst, arith}
use Rattle.plane_sweep.specs.Storing.{Changed, StoresPlane}
use Rattle.plane_sweep.proofs.Gathering.{changed-none, changed-more}
use Rattle.plane_sweep.proofs.storing.store_planes.Goals as goal

pub planes-init : goal.planes-init
planes-init c = changed-none _ _

pub planes-preserved : goal.planes-preserved
planes-preserved c =
    let count = c.requires.count in
    changed-more _ c.planes.k c.args.planes.now c.planes.planes c.at_mut.result.now c.store_plane.new.plane c.planes.invariant (omega arith) c.at_mut.ensures.value c.store_plane.ensures

pub returns-clause-stored : goal.returns-clause-stored
returns-clause-stored c =
    let l = c.args.lattice.now in
    let whole : c.planes.k ≡ 2 * l = omega arith in
    let S : ℕ → Type 0 = λ n. Changed (StoresPlane l c.args.sample c.args.part.now.spins c.args.part.now.wheels) n c.args.planes.now c.planes.planes in
    subst S whole c.planes.invariant
