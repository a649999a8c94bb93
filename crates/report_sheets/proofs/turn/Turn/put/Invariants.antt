-- The rows of the first parts are put.
use Rattle.glass_edges.specs.Writes.{HasPut}
use Rattle.report_sheets.specs.Sheets.{start_of}
use Rattle.report_sheets.proofs.turn.Turn.put.Given as goal

abbrev pub invariant-parts : goal.invariant-parts
invariant-parts g l = HasPut g.O.Sink l.fn.out l.out (g.S.RowSource.text l.rows l.self.done.first (start_of l.self.done l.k))
