-- The place is one of the table's, and each of the three stores keeps the invariant.
use Rattle.std.proofs.Common.{arith}
use Rattle.turn_cell.proofs.Marking.{marks_a_place}
use Rattle.turn_cell.proofs.cell.TurnCell.store_mark.Goals as goal

pub store-requires : goal.store-requires
store-requires g c =
    let own = c.requires.own in
    let within = c.requires.lawful.0 in
    let seat = c.args.pass.now.seat in
    let slots = c.args.self.now.table.shared.table_id.slots in
    let keeps = marks_a_place g.V.Kept.origin g.V.Kept.marks slots seat.id seat.me c.args.place c.args.mark own.stands c.requires.held c.requires.lawful in
    (own.same, omega (arith, own.sized, own.knows c.requires.held, within), keeps)
