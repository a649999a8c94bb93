use Rattle.std.proofs.Common.{drop, ◌*◌}
use Rattle.run_checkpoint.specs.UnevenDecoding.{record_in}
use Rattle.run_checkpoint.proofs.Items.{Filled}
use Rattle.run_checkpoint.proofs.reading.fill_records.Given as goal

abbrev pub invariant-records : goal.invariant-records
invariant-records l = Filled (λ i. record_in (drop (14 * i) l.bytes)) l.i l.fn.records l.records
