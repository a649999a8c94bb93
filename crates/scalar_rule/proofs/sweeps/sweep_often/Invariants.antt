use Rattle.std.proofs.Common.{◌≡◌, length}
use Rattle.scalar_rule.specs.SlotRules.{dynamics_with}
use Rattle.scalar_rule.specs.Replica.{configuration_of}
use Rattle.scalar_rule.specs.Sweep.{sweeps}
use Rattle.scalar_rule.proofs.sweeps.sweep_often.Given as goal

abbrev pub invariant-sweeps : goal.invariant-sweeps
invariant-sweeps g l = record {
  swept : configuration_of l.replica ≡ sweeps (dynamics_with l.lattice l.rule (g.B.Bonds.negative l.bonds)) l.counter (configuration_of l.fn.replica);
  spins : length l.replica.spins ≡ length l.fn.replica.spins;
  label : l.replica.replica ≡ l.fn.replica.replica;
  wheels : length l.replica.wheels ≡ length l.fn.replica.wheels;
}
