use Rattle.plane_sweep.specs.Packed.{part_copy}
use Rattle.scalar_rule.specs.Plan.{dynamics_of}
use Rattle.plane_sweep.proofs.ColourSweeps.{sweeps-none, sweeps-more}
use Rattle.plane_sweep.proofs.sweeping.sweep_often.Goals as goal

pub sweeps-init : goal.sweeps-init
sweeps-init g c = record { fits = c.requires.replica; swept = λ b small. sweeps-none _ _ }

pub sweeps-preserved : goal.sweeps-preserved
sweeps-preserved g c = record {
  fits = c.sweep_replica.ensures.fits;
  swept = λ b small. sweeps-more (dynamics_of c.args.plan.now b c.args.slot) c.sweeps.counter _ (part_copy c.args.plan.now.size b c.sweeps.replica) _ (c.sweep_replica.ensures.swept c.args.slot b c.rule_of_slot-rule.ensures small) (c.sweeps.invariant.swept b small);
}
