use Rattle.std.proofs.Common.{◌++◌, flat_map}
use Rattle.glass_edges.specs.Writes.{HasPutFront}
use Rattle.spin_model.specs.Steps.{table}
use Rattle.report_text.specs.Lines.{row_line}
use Rattle.glass_engine.proofs.rows.add_sample.Given as goal
use Rattle.scalar_rule.specs.Records.{record_at}

abbrev pub invariant-slots : goal.invariant-slots
invariant-slots g l = HasPutFront g.O.Sink l.fn.out l.out (l.fn.line ++ flat_map (λ t. row_line l.epoch l.sample t (record_at l.records t)) (table (λ t. t) l.slot)) l.line
