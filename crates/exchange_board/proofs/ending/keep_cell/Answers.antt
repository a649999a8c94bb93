use Rattle.std.proofs.Common.{arith, List, [], ◌∷◌, ◌++◌, length, map, get_or, All, subst, sym, ap, ◌∙◌, ◌<◌, ◌+◌, ◌*◌}
use Rattle.std.proofs.lemmas.List.{get_or_default, length-map}
use Rattle.scalar_rule.specs.Positions.{floor_of}
use Rattle.scalar_rule.specs.declared.sample.Record.{Record}
use Rattle.plane_sweep.specs.Cells.{IsCell}
use Rattle.plane_sweep.specs.Uneven.{position_of, FitsRecord}
use Rattle.exchange_board.specs.Content.{no_record}
use Rattle.exchange_board.proofs.Cells.{IsKeptRow, kept-row}
use Rattle.exchange_board.proofs.Stopping.{all-push, IsAheadCell, ahead-short, ahead-floor, ahead-is, ahead-cell, ahead-value}
use Rattle.exchange_board.proofs.ending.keep_cell.Goals as goal
use Rattle.exchange_board.proofs.ending.keep_cell.Goals.{After-cell_at-cell, Then-has_record, After-rows_of-rows}

-- the cell is the one of this number
cell-at : (c : After-cell_at-cell) → IsCell (floor_of (map position_of c.args.places.now)) c.args.origin.now.window.samples (length (map position_of c.args.places.now)) c.args.index c.cell_at-cell.result
cell-at c =
    ahead-is c.args.origin.now (map position_of c.args.places.now) c.args.floor c.len.result c.args.index c.cell_at-cell.result c.requires.floor
    (c.len.ensures ∙ sym (length-map c.args.places.now position_of)) c.cell_at-cell.ensures

-- a record of it is kept
ahead : (c : Then-has_record) → IsAheadCell c.args.origin.now (map position_of c.args.places.now) c.cell_at-cell.result
ahead c =
    let o = c.args.origin.now in
    let ps = map position_of c.args.places.now in
    let is = cell-at (goal.at.Then-has_record c).After-cell_at-cell in
    ahead-cell o ps c.args.index c.cell_at-cell.result c.requires.lawful c.requires.ahead (sym (c.has_record.ensures (floor_of ps) o.window.samples c.args.index is) ∙ c.if-has_record.true) is

-- the row that it has
row : (c : After-rows_of-rows) → IsKeptRow c.args.origin.now c.cell_at-cell.result c.rows_of-rows.result
row c = kept-row c.args.origin.now c.cell_at-cell.result c.rows_of-rows.result c.requires.lawful (ahead (goal.at.After-rows_of-rows c).Then-has_record).cell_is c.rows_of-rows.ensures.rows

pub cell_at-cell-requires-clause-from : goal.cell_at-cell-requires-clause-from
cell_at-cell-requires-clause-from c = omega (arith, ahead-floor c.args.origin.now (map position_of c.args.places.now) c.requires.lawful c.requires.ahead, c.requires.floor)

pub has_record-requires-clause-short : goal.has_record-requires-clause-short
has_record-requires-clause-short c = λ t h. ahead-short c.args.origin.now c.args.places.now t c.requires.lawful c.requires.ahead h

pub rows_of-rows-requires-clause-below : goal.rows_of-rows-requires-clause-below
rows_of-rows-requires-clause-below c = (ahead (goal.at.rows_of-rows-requires-clause-below c).Then-has_record).cell_is.below

pub rows_of-rows-requires-clause-recorded : goal.rows_of-rows-requires-clause-recorded
rows_of-rows-requires-clause-recorded c = (ahead (goal.at.rows_of-rows-requires-clause-recorded c).Then-has_record).cell_is.printed

pub place-requires-clause-sample : goal.place-requires-clause-sample
place-requires-clause-sample c =
    let cell = (ahead (goal.at.place-requires-clause-sample c).Then-has_record).cell_is in
    omega (arith, cell.sample, c.rows_of-rows.ensures.rows.samples)

pub place-requires-clause-slot : goal.place-requires-clause-slot
place-requires-clause-slot c =
    let cell = (ahead (goal.at.place-requires-clause-slot c).Then-has_record).cell_is in
    let are = c.rows_of-rows.ensures.rows in
    omega (arith, cell.slot, are.slot, are.slots)

pub place-requires-clause-few : goal.place-requires-clause-few
place-requires-clause-few c =
    let room = c.rows_of-rows.ensures.room in
    omega (arith, room, c.requires.lawful.rows)

pub at-row-requires : goal.at-row-requires
at-row-requires c =
    let is = row (goal.at.at-row-requires c).After-rows_of-rows in
    let at = c.place.ensures in
    omega (arith, is.within, c.requires.sized)

pub returns-then-has_record-clause-kept : goal.returns-then-has_record-clause-kept
returns-then-has_record-clause-kept c = λ on.
    let at = goal.at.returns-then-has_record-clause-kept c in
    let o = c.args.origin.now in
    let ps = map position_of c.args.places.now in
    let is = row at.After-rows_of-rows in
    let within : (c.rows_of-rows.result.at + c.cell_at-cell.result.sample) * c.rows_of-rows.result.slots + c.rows_of-rows.result.slot < length c.args.records.now = omega (arith, is.within, c.requires.sized) in
    let value = c.at-row.ensures ∙ (ap (λ j. get_or c.args.records.now j c.at-row.result.now) c.place.ensures ∙ (get_or_default c.args.records.now _ _ no_record within
    ∙ ahead-value o ps c.args.floor (length c.args.places.now) c.args.index c.cell_at-cell.result c.args.records.now _ c.requires.floor (length-map c.args.places.now position_of)
    (cell-at at.After-cell_at-cell) (ahead at.Then-has_record) is.place c.requires.rows)) in
    c.put.ensures.items ∙ ap (λ (x : Record). c.args.room.now.items ++ x ∷ []) (c.record_in_range.ensures.same ∙ value)

pub returns-then-has_record-clause-fits : goal.returns-then-has_record-clause-fits
returns-then-has_record-clause-fits c = λ each.
    let A : List Record → Type 0 = λ rows. All FitsRecord rows in
    subst A (sym c.put.ensures.items) (all-push c.args.room.now.items _ each c.record_in_range.ensures.fits)
