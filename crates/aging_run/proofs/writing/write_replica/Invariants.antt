use Rattle.std.proofs.Common.{◌≡◌, ◌+◌, take}
use Rattle.glass_edges.specs.Writes.{HasPut}
use Rattle.plane_sweep.specs.Packed.{part_copy, FitsReplica}
use Rattle.aging_run.specs.Aging.{replica_lines}
use Rattle.aging_run.proofs.Times.{time_before, HasSwept, HasSpinsAfter}
use Rattle.aging_run.proofs.writing.write_replica.Given as goal

abbrev pub invariant-times : goal.invariant-times
invariant-times g l = record {
  written : HasPut g.O.Sink l.fn.out l.out (replica_lines l.order.plan.now l.order.samples l.order.wait (take l.k l.order.times.now) l.place.slot l.place.copy (λ b. part_copy l.order.plan.now.size b l.fn.replica));
  swept : HasSwept l.order.plan.now l.place.slot (l.order.wait + l.done) l.fn.replica l.replica;
  spins : HasSpinsAfter l.order.plan.now l.place.slot l.order.wait l.fn.replica l.kept;
  fits : FitsReplica l.order.plan.now.size l.replica;
  room : FitsReplica l.order.plan.now.size l.kept;
  last : l.done ≡ time_before l.order.times.now l.k;
}
