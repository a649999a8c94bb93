use Rattle.std.proofs.Common.{ap, ◌∙◌}
use Rattle.scalar_rule.specs.Plan.{dynamics_of}
use Rattle.scalar_rule.specs.Replica.{configuration_of}
use Rattle.scalar_rule.specs.Sweep.{sweeps}
use Rattle.scalar_rule.proofs.PlanDynamics.{IsRead, sweeps-read, with_configuration-is}
use Rattle.scalar_rule.proofs.sweeps.epoch_sweeps.Goals as goal

pub returns-clause-swept : goal.returns-clause-swept
returns-clause-swept c =
    let start = configuration_of c.args.copy.now in
    let read : IsRead c.args.plan.now c.args.bit c.args.slot c.lattice.result c.of-bonds.result.bit c.slot_rule.result c.of-bonds.result.couplings.now = record {
      side = c.lattice.ensures.value;
      sample = c.of-bonds.ensures.bit;
      thresholds = c.slot_rule.ensures;
      signs = c.of-bonds.ensures.couplings ∙ c.couplings.ensures.value;
    } in
    with_configuration-is _ c.args.copy.now _
    (c.sweep_often.ensures.swept
    ∙ sweeps-read c.args.plan.now c.args.bit c.args.slot _ _ _ _ c.sweeps.result start read
    ∙ ap (λ n. sweeps (dynamics_of c.args.plan.now c.args.bit c.args.slot) n start) c.sweeps.ensures.value)
    c.sweep_often.ensures.label
