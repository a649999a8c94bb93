use Rattle.std.specs.Arc.{arc_value}
use Rattle.std.proofs.Common.{subst}
use Rattle.scalar_rule.specs.Plan.{IsLawfulPlan}
use Rattle.run_checkpoint.proofs.BankSteps.{lawful-more}
use Rattle.kept_states.proofs.kept_reading.read_lawful.Goals as goal

pub plans-preserved : goal.plans-preserved
plans-preserved c = lawful-more arc_value c.args.plans.now c.plans.g c.index-plans-g.result c.plans-test.true c.index-plans-g.is (subst IsLawfulPlan c.deref.ensures c.lattice.ensures.lawful) c.plans.invariant
