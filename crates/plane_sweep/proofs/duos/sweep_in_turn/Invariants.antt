use Rattle.std.proofs.Common.{◌≡◌, ℕ, ◌<◌}
use Rattle.plane_sweep.specs.Packed.{part_copy, FitsDuo}
use Rattle.scalar_rule.specs.Plan.{dynamics_of}
use Rattle.scalar_rule.specs.Replica.{configuration_of, with_configuration}
use Rattle.scalar_rule.specs.Sweep.{sweeps}
use Rattle.plane_sweep.proofs.duos.sweep_in_turn.Given as goal

abbrev pub invariant-sweeps : goal.invariant-sweeps
invariant-sweeps l = record {
  fits : FitsDuo l.plan.size l.duo;
  first : (b : ℕ) → b < 64 → part_copy l.plan.size b l.duo.first
      ≡ with_configuration (part_copy l.plan.size b l.fn.duo.first) (sweeps (dynamics_of l.plan b l.slot) l.counter (configuration_of (part_copy l.plan.size b l.fn.duo.first)));
  second : (b : ℕ) → b < 64 → part_copy l.plan.size b l.duo.second
      ≡ with_configuration (part_copy l.plan.size b l.fn.duo.second) (sweeps (dynamics_of l.plan b l.slot) l.counter (configuration_of (part_copy l.plan.size b l.fn.duo.second)));
}
