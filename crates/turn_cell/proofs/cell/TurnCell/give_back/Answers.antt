-- The value is at home and the turn free: the step keeps the invariant.
use Rattle.std.proofs.Common.{◌<◌, arith, ap, ◌∙◌}
use Rattle.turn_cell.specs.Seats.{carried}
use Rattle.turn_cell.proofs.Keeping.{gives_back}
use Rattle.turn_cell.proofs.cell.TurnCell.give_back.Goals as goal

pub store-requires : goal.store-requires
store-requires g c =
    let own = c.requires.own in
    let me = c.args.pass.now.seat.me in
    let seat = c.exchange.new.seat in
    let e = c.exchange.ensures in
    let slots = c.args.self.now.table.shared.table_id.slots in
    let some_slot : 0 < slots = omega (arith, c.args.self.now.sized.1) in
    let had = own.carries ∙ ap carried c.requires.held in
    -- the first side is named, since it would be found with the seat's value written out
    (◌∙◌ {a = seat.table_id} e.0 own.same, c.args.self.now.sized.0, gives_back g.V.Kept.origin g.V.Kept.marks slots seat.id seat.me me.0 me.1 c.args.value some_slot e.3 had own.stands c.requires.held (c.requires.base, c.requires.words))
