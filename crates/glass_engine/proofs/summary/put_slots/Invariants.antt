use Rattle.std.proofs.Common.{flat_map}
use Rattle.glass_edges.specs.Writes.{HasPut}
use Rattle.plane_sweep.specs.Uneven.{uneven_part}
use Rattle.scalar_rule.specs.Plan.{slots_of}
use Rattle.spin_model.specs.Steps.{table}
use Rattle.glass_engine.specs.RecordPieces.{piece}
use Rattle.glass_engine.specs.Summary.{slot_sums}
use Rattle.glass_engine.proofs.summary.put_slots.Given as goal

abbrev pub invariant-slots : goal.invariant-slots
invariant-slots g l = HasPut g.O.Sink l.fn.out l.out
    (flat_map (slot_sums (λ b. piece l.records (slots_of l.plan) b) (λ b. (uneven_part l.plan.size b l.stand).slots)) (table (λ t. t) l.slot))
