-- One record more.
use Rattle.std.proofs.Common.{arith}
use Rattle.run_checkpoint.proofs.Pieces.{puts-more}
use Rattle.run_checkpoint.proofs.UnevenParts.{record-spare}
use Rattle.run_checkpoint.proofs.encoding.put_records.Goals as goal
use Rattle.run_checkpoint.specs.Kinds.{record_bytes}

pub put_record-requires-clause-fits : goal.put_record-requires-clause-fits
put_record-requires-clause-fits c = c.requires.fit c.records.kept-index _ c.records-test.true

pub records-preserved : goal.records-preserved
records-preserved c =
    let fourteen = record-spare _ _ _ c.put_record.ensures in
    record {
      puts = puts-more record_bytes c.args.records.now c.records.kept-index _ _ _ _ c.records-test.true c.records.invariant.puts c.put_record.ensures;
      spare = omega (arith, c.records.invariant.spare, fourteen);
    }
