-- The step keeps the invariant, and where it took the lock the seat has the value in its place.
use Rattle.std.proofs.Common.{ap, sym, ◌∙◌, ◌∷◌, Some}
use Rattle.atomic_table.specs.Table.{rest}
use Rattle.turn_cell.specs.Seats.{carried}
use Rattle.turn_cell.proofs.Keeping.{tries}
use Rattle.turn_cell.proofs.cell.TurnCell.try_turn.Goals as goal

pub compare_exchange-found-requires : goal.compare_exchange-found-requires
compare_exchange-found-requires g c =
    let own = c.requires.own in
    let seat = c.args.pass.now.seat in
    let slots = c.args.self.now.table.shared.table_id.slots in
    let empty = own.carries ∙ ap carried c.requires.free in
    (own.same, c.args.self.now.sized.0, tries g.V.Kept.origin g.V.Kept.marks slots seat.id seat.me own.stands c.requires.free empty)

pub exchange-requires : goal.exchange-requires
exchange-requires g c =
    let t = c.compare_exchange-found.ensures.2.0 c.if-found-ne0.false in
    (c.compare_exchange-found.ensures.0 ∙ c.requires.own.same, (Some t.0, t.1 ∙ ap (λ l. (0, Some t.0) ∷ rest l) (sym t.1)))
