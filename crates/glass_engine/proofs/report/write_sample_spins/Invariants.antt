use Rattle.std.proofs.Common.{◌%◌, flat_map}
use Rattle.glass_edges.specs.Writes.{HasPut}
use Rattle.plane_sweep.specs.Uneven.{uneven_part}
use Rattle.scalar_rule.specs.Epoch.{slot_at}
use Rattle.spin_model.specs.Steps.{table}
use Rattle.glass_engine.specs.Report.{slot_spins}
use Rattle.glass_engine.proofs.report.write_sample_spins.Given as goal

abbrev pub invariant-slots : goal.invariant-slots
invariant-slots g l = HasPut g.O.Sink l.fn.out l.out
    (flat_map (λ t. slot_spins l.plan.size l.sample t (slot_at (uneven_part l.plan.size (l.sample % 64) l.stand).slots t)) (table (λ t. t) l.slot))
