-- One plane more.
use Rattle.std.proofs.Common.{ap, ◌∙◌, drop, ◌*◌, arith}
use Rattle.run_checkpoint.specs.Lengths.{plane_len}
use Rattle.run_checkpoint.specs.Reading.{plane_in}
use Rattle.run_checkpoint.specs.Unfilled.{HasWords}
use Rattle.run_checkpoint.proofs.Items.{item-room, filled-none, filled-more, filled-next, filled-all}
use Rattle.run_checkpoint.proofs.reading.fill_planes.Goals as goal

pub planes-init : goal.planes-init
planes-init c = filled-none _ _

pub fill_plane-requires-clause-room : goal.fill_plane-requires-clause-room
fill_plane-requires-clause-room c =
    let count = c.requires.count in
    filled-next (HasWords c.args.size) _ c.planes.k c.args.planes.now c.planes.planes c.at_mut.result.now c.requires.rooms (omega arith) c.planes.invariant c.at_mut.ensures.value

pub fill_plane-requires-clause-len : goal.fill_plane-requires-clause-len
fill_plane-requires-clause-len c =
    let room = item-room (plane_len c.args.size) (2 * c.args.size) c.planes.k c.planes-test.true in
    omega (arith, room, c.requires.len, c.behind.ensures.len, ap (λ n. n * c.planes.k) c.plane_len-len.ensures.value)

pub planes-preserved : goal.planes-preserved
planes-preserved c =
    let count = c.requires.count in
    filled-more (λ i. plane_in c.args.size (drop (plane_len c.args.size * i) c.args.bytes.now)) c.planes.k c.args.planes.now c.planes.planes c.fill_plane.new.plane (omega arith) c.planes.invariant
    (c.fill_plane.ensures ∙ ap (plane_in c.args.size) (c.behind.ensures.value ∙ ap (λ n. drop (n * c.planes.k) c.args.bytes.now) c.plane_len-len.ensures.value))

pub returns : goal.returns
returns c = filled-all _ c.planes.k (2 * c.args.size) c.args.planes.now c.planes.planes c.planes.invariant c.requires.count (omega arith)
