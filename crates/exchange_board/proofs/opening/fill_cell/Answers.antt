use Rattle.std.proofs.Common.{arith, true, length, set, refl, sym, ap, ap₂, ◌∙◌, ◌≡◌, ◌<◌, ◌*◌, ◌-◌, ◌/◌, ◌%◌}
use Rattle.std.proofs.lemmas.List.{get_or_default}
use Rattle.scalar_rule.specs.Plan.{slots_of}
use Rattle.scalar_rule.specs.Positions.{deepest_of, cell_epoch}
use Rattle.spin_model.proofs.Counts.{count-most}
use Rattle.plane_sweep.specs.Cells.{IsCell}
use Rattle.exchange_board.specs.Content.{slots_in, positions_in, floor_in, row_place, no_record}
use Rattle.exchange_board.specs.Kept.{kept_in, cells_in}
use Rattle.exchange_board.proofs.Origins.{place-short, positions-long}
use Rattle.exchange_board.proofs.Cells.{IsKeptCell, IsKeptRow, kept-cell, kept-row, cell-place, cell-is, cells-few, before-within}
use Rattle.exchange_board.proofs.opening.fill_cell.Goals as goal
use Rattle.exchange_board.proofs.opening.fill_cell.Goals.{After-cell_at-cell, Then-has_record, After-rows_of-rows}

-- the cell is the one of this number
cell-at : (c : After-cell_at-cell) → IsCell (floor_in c.args.origin.now) c.args.origin.now.window.samples (length (positions_in c.args.origin.now)) c.args.index c.cell_at-cell.result
cell-at c =
    cell-is c.args.origin.now c.args.floor c.slots.result c.args.index c.cell_at-cell.result c.requires.lawful c.requires.floor
    (c.slots.ensures.value ∙ ap (λ p. slots_of p) c.deref.ensures) c.cell_at-cell.ensures

-- a record of it is kept
is-kept : (c : Then-has_record) → kept_in c.args.origin.now c.args.index ≡ true
is-kept c =
    let o = c.args.origin.now in
    sym (c.has_record.ensures (floor_in o) o.window.samples c.args.index (cell-at (goal.at.Then-has_record c).After-cell_at-cell)) ∙ c.if-has_record.true

kept : (c : Then-has_record) → IsKeptCell c.args.origin.now c.cell_at-cell.result
kept c = kept-cell c.args.origin.now c.args.index c.cell_at-cell.result c.requires.lawful (is-kept c) (cell-at (goal.at.Then-has_record c).After-cell_at-cell)

-- the row that it goes to
row : (c : After-rows_of-rows) → IsKeptRow c.args.origin.now c.cell_at-cell.result c.rows_of-rows.result
row c = kept-row c.args.origin.now c.cell_at-cell.result c.rows_of-rows.result c.requires.lawful (kept (goal.at.After-rows_of-rows c).Then-has_record) c.rows_of-rows.ensures.rows

-- it has its place in the list
within : (c : Then-has_record) → c.args.next < length c.args.origin.now.base.pending
within c = omega (arith, before-within c.args.origin.now c.args.index (is-kept c) c.requires.index, c.requires.next, c.requires.lawful.base.pending)

pub has_record-requires-clause-short : goal.has_record-requires-clause-short
has_record-requires-clause-short c = λ t h. place-short c.args.origin.now t c.requires.lawful h

pub rows_of-rows-requires-clause-below : goal.rows_of-rows-requires-clause-below
rows_of-rows-requires-clause-below c = (kept (goal.at.rows_of-rows-requires-clause-below c).Then-has_record).below

pub rows_of-rows-requires-clause-recorded : goal.rows_of-rows-requires-clause-recorded
rows_of-rows-requires-clause-recorded c = (kept (goal.at.rows_of-rows-requires-clause-recorded c).Then-has_record).printed

pub place-requires-clause-sample : goal.place-requires-clause-sample
place-requires-clause-sample c =
    let cell = kept (goal.at.place-requires-clause-sample c).Then-has_record in
    omega (arith, cell.sample, c.rows_of-rows.ensures.rows.samples)

pub place-requires-clause-slot : goal.place-requires-clause-slot
place-requires-clause-slot c =
    let cell = kept (goal.at.place-requires-clause-slot c).Then-has_record in
    let are = c.rows_of-rows.ensures.rows in
    omega (arith, cell.slot, are.slot, are.slots)

pub place-requires-clause-few : goal.place-requires-clause-few
place-requires-clause-few c =
    let room = c.rows_of-rows.ensures.room in
    omega (arith, room, c.requires.lawful.rows)

pub at-requires : goal.at-requires
at-requires c = within (goal.at.at-requires c).Then-has_record

pub at_mut-requires : goal.at_mut-requires
at_mut-requires c =
    let is = row (goal.at.at_mut-requires c).After-rows_of-rows in
    let at = c.place.ensures in
    omega (arith, is.within, c.requires.sized)

pub overflow_add-result : goal.overflow_add-result
overflow_add-result c =
    let few = cells-few c.args.origin.now c.requires.lawful in
    let long = positions-long c.args.origin.now c.requires.lawful in
    let same : cells_in c.args.origin.now ≡ (deepest_of (positions_in c.args.origin.now) - floor_in c.args.origin.now) * c.args.origin.now.window.samples * slots_in c.args.origin.now = ap (λ n. (deepest_of (positions_in c.args.origin.now) - floor_in c.args.origin.now) * c.args.origin.now.window.samples * n) long in
    let most = count-most (kept_in c.args.origin.now) c.args.index in
    omega (arith, c.requires.index, c.requires.next)

pub returns-then-has_record-clause-kept : goal.returns-then-has_record-clause-kept
returns-then-has_record-clause-kept c = λ on.
    let at = goal.at.returns-then-has_record-clause-kept c in
    let o = c.args.origin.now in
    let n = length (positions_in o) in
    let place = c.place.ensures ∙ (row at.After-rows_of-rows).place ∙ (cell-place o c.args.index c.cell_at-cell.result (cell-at at.After-cell_at-cell)
    ∙ ap (λ f. row_place o (cell_epoch f o.window.samples n c.args.index) (c.args.index / n % o.window.samples) (c.args.index % n)) (sym c.requires.floor)) in
    (refl, ap₂ (λ p x. set c.args.records.now p x) place (c.at.ensures ∙ get_or_default o.base.pending c.args.next _ no_record (within at.Then-has_record)))
