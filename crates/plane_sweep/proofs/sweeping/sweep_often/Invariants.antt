use Rattle.std.proofs.Common.{◌≡◌, ℕ, ◌<◌}
use Rattle.plane_sweep.specs.Packed.{part_copy, FitsReplica}
use Rattle.scalar_rule.specs.Plan.{dynamics_of}
use Rattle.scalar_rule.specs.Replica.{configuration_of, with_configuration}
use Rattle.scalar_rule.specs.Sweep.{sweeps}
use Rattle.plane_sweep.proofs.sweeping.sweep_often.Given as goal

abbrev pub invariant-sweeps : goal.invariant-sweeps
invariant-sweeps g l = record {
  fits : FitsReplica l.plan.size l.replica;
  swept : (b : ℕ) → b < 64 → part_copy l.plan.size b l.replica
      ≡ with_configuration (part_copy l.plan.size b l.fn.replica) (sweeps (dynamics_of l.plan b l.slot) l.counter (configuration_of (part_copy l.plan.size b l.fn.replica)));
}
