use Rattle.std.proofs.Common.{◌∙◌}
use Rattle.scalar_rule.specs.Replica.{configuration_of}
use Rattle.scalar_rule.proofs.PlanDynamics.{IsRead, half_sweep-read, with_configuration-is}
use Rattle.scalar_rule.proofs.sweeps.half_sweep.Goals as goal

pub returns-clause-swept : goal.returns-clause-swept
returns-clause-swept c =
    let read : IsRead c.args.plan.now c.args.bit c.args.slot c.lattice.result c.of-bonds.result.bit c.slot_rule.result c.of-bonds.result.couplings.now = record {
      side = c.lattice.ensures.value;
      sample = c.of-bonds.ensures.bit;
      thresholds = c.slot_rule.ensures;
      signs = c.of-bonds.ensures.couplings ∙ c.couplings.ensures.value;
    } in
    with_configuration-is _ c.args.copy.now _ (c.half_sweep_by.ensures.swept ∙ half_sweep-read c.args.plan.now c.args.bit c.args.slot _ _ _ _ c.args.colour (configuration_of c.args.copy.now) read) c.half_sweep_by.ensures.label
