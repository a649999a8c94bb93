use Rattle.std.proofs.Common.{◌≡◌, length, arith, subst}
use Rattle.plane_sweep.specs.Storing.{Changed}
use Rattle.plane_sweep.proofs.Gathering.{changed-none, changed-more}
use Rattle.aging_run.specs.Keeping.{KeepsPlane}
use Rattle.aging_run.proofs.Kept.{words-fit, words-got}
use Rattle.aging_run.proofs.keeping.keep_planes.Goals as goal

pub planes-init : goal.planes-init
planes-init c = changed-none _ _

pub keep_plane-requires : goal.keep_plane-requires
keep_plane-requires c =
    words-fit c.args.planes.now c.args.kept.now c.planes.kept c.planes.k c.at_mut.result.now c.at.result.now c.planes.invariant c.requires.count (omega arith)
    (c.requires.words c.planes.k (omega arith)) c.at_mut.ensures.value c.at.ensures

pub planes-preserved : goal.planes-preserved
planes-preserved c =
    let count = c.requires.count in
    changed-more _ c.planes.k c.args.kept.now c.planes.kept c.at_mut.result.now c.keep_plane.new.kept c.planes.invariant (omega arith) c.at_mut.ensures.value
    (words-got c.args.planes.now c.planes.k c.at.result.now c.at_mut.result.now c.keep_plane.new.kept c.at.ensures (omega arith) c.keep_plane.ensures.words c.keep_plane.ensures.generator)

pub returns : goal.returns
returns c =
    let whole : c.planes.k ≡ length c.args.planes.now = omega arith in
    subst (λ n. Changed (KeepsPlane c.args.planes.now) n c.args.kept.now c.planes.kept) whole c.planes.invariant
