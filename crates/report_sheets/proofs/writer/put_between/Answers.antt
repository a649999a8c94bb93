use Rattle.std.proofs.Common.{◌++◌, ap}
use Rattle.glass_edges.proofs.Writing.{fronts-same, fronts-put}
use Rattle.report_sheets.proofs.writer.put_between.Goals as goal

pub returns : goal.returns
returns g c =
    let rows = g.S.RowSource.text c.args.rows.now c.args.from c.args.to in
    fronts-put (fronts-same (ap (λ xs. xs ++ rows) c.new-line.ensures) c.in_ok-add.ensures) c.put.ensures.written
