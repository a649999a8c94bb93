use Rattle.glass_edges.specs.Writes.{HasPut}
use Rattle.plane_sweep.specs.Packed.{part, FitsReplica}
use Rattle.aging_run.proofs.Slots.{ReachedTo}
use Rattle.aging_run.specs.Aging.{all_lines}
use Rattle.aging_run.proofs.writing.write_slots.Given as goal

abbrev pub invariant-slots : goal.invariant-slots
invariant-slots g l = record {
  written : HasPut g.O.Sink l.fn.out l.out (all_lines l.order.plan.now l.order.samples l.order.wait l.order.times.now (λ b. part l.order.plan.now.size b l.fn.stand) l.slot);
  rest : ReachedTo l.slot l.fn.stand.slots l.stand.slots;
  room : FitsReplica l.order.plan.now.size l.kept;
}
