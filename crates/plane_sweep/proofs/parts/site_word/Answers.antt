use Rattle.std.proofs.Common.{◌≡◌, ◌+◌, ◌*◌, ◌/◌, arith}
use Rattle.spin_model.specs.Lattice.{colour, z_of, place_in_plane}
use Rattle.spin_model.proofs.CompactOrder.{place_in_plane-below}
use Rattle.plane_sweep.proofs.PartSpins.{read-plane, read-word}
use Rattle.plane_sweep.proofs.PlaneSites.{plane-below}
use Rattle.plane_sweep.proofs.parts.site_word.Goals as goal

pub at-requires : goal.at-requires
at-requires c =
    let l = c.args.lattice.now in
    let i = c.args.site in
    let k = c.colour.result * c.size-size.result + c.coordinates-x.result.2 in
    let chosen : k ≡ colour l i * l + z_of l i = cc (c.colour.ensures.value, c.size-size.ensures.value, c.coordinates-x.ensures.z) in
    let place : c.coordinates-x.result.1 * (c.size-size.result / 2) + c.coordinates-x.result.0 / 2 ≡ place_in_plane l i = cc (c.size-size.ensures.value, c.coordinates-x.ensures.y, c.coordinates-x.ensures.x) in
    let plane = plane-below l i c.size-size.ensures.lawful c.requires.site in
    let count = c.requires.count in
    let sized = (read-plane l k c.args.planes.now c.at-plane.result.now c.requires.planes (omega arith) c.at-plane.ensures).sized in
    let room = place_in_plane-below l i c.size-size.ensures.lawful in
    omega arith

pub returns : goal.returns
returns c =
    let l = c.args.lattice.now in
    let i = c.args.site in
    let k = c.colour.result * c.size-size.result + c.coordinates-x.result.2 in
    let chosen : k ≡ colour l i * l + z_of l i = cc (c.colour.ensures.value, c.size-size.ensures.value, c.coordinates-x.ensures.z) in
    let place : c.coordinates-x.result.1 * (c.size-size.result / 2) + c.coordinates-x.result.0 / 2 ≡ place_in_plane l i = cc (c.size-size.ensures.value, c.coordinates-x.ensures.y, c.coordinates-x.ensures.x) in
    let plane = plane-below l i c.size-size.ensures.lawful c.requires.site in
    let count = c.requires.count in
    read-word l i k _ c.at.result.now c.args.planes.now c.at-plane.result.now c.size-size.ensures.lawful c.requires.planes (omega arith) chosen place c.at-plane.ensures c.at.ensures
