use Rattle.std.proofs.Common.{◌∙◌}
use Rattle.scalar_rule.specs.Replica.{configuration_of}
use Rattle.scalar_rule.proofs.PlanDynamics.{IsRead, sweep-read, with_configuration-is}
use Rattle.scalar_rule.proofs.sweeps.sweep.Goals as goal

pub returns-clause-swept : goal.returns-clause-swept
returns-clause-swept c =
    let read : IsRead c.args.plan.now c.args.bit c.args.slot c.lattice.result c.of-bonds.result.bit c.slot_rule.result c.of-bonds.result.couplings.now = record {
      side = c.lattice.ensures.value;
      sample = c.of-bonds.ensures.bit;
      thresholds = c.slot_rule.ensures;
      signs = c.of-bonds.ensures.couplings ∙ c.couplings.ensures.value;
    } in
    with_configuration-is _ c.args.copy.now _ (c.sweep_by.ensures.swept ∙ sweep-read c.args.plan.now c.args.bit c.args.slot _ _ _ _ (configuration_of c.args.copy.now) read) c.sweep_by.ensures.label
