-- One record more.
use Rattle.std.proofs.Common.{ap, ◌∙◌, drop, ◌*◌, arith}
use Rattle.run_checkpoint.specs.UnevenDecoding.{record_in, records_in}
use Rattle.run_checkpoint.proofs.Items.{filled-none, filled-more, filled-all}
use Rattle.run_checkpoint.proofs.reading.fill_records.Goals as goal

pub records-init : goal.records-init
records-init c = filled-none _ _

pub records-preserved : goal.records-preserved
records-preserved c =
    let count = c.requires.count in
    filled-more (λ i. record_in (drop (14 * i) c.args.bytes.now)) c.records.i c.args.records.now c.records.records c.record_of.result (omega arith) c.records.invariant
    (c.record_of.ensures ∙ ap record_in c.behind.ensures.value)

pub returns : goal.returns
unfolding records_in
returns c = filled-all _ c.records.i c.args.count c.args.records.now c.records.records c.records.invariant c.requires.count (omega arith)
