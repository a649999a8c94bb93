use Rattle.plane_sweep.specs.Packed.{part_copy}
use Rattle.scalar_rule.specs.Plan.{dynamics_of}
use Rattle.plane_sweep.proofs.ColourSweeps.{sweeps-none, sweeps-more}
use Rattle.plane_sweep.proofs.duos.sweep_in_turn.Goals as goal

pub sweeps-init : goal.sweeps-init
sweeps-init c = record { fits = c.requires.duo; first = λ b small. sweeps-none _ _; second = λ b small. sweeps-none _ _ }

pub sweeps-preserved : goal.sweeps-preserved
sweeps-preserved c = record {
  fits = c.sweep_once.ensures.fits;
  first = λ b small. sweeps-more (dynamics_of c.args.plan.now b c.args.slot) c.sweeps.counter _ (part_copy c.args.plan.now.size b c.sweeps.duo.first) _ (c.sweep_once.ensures.first c.args.slot b c.rule_of_slot-rule.ensures small) (c.sweeps.invariant.first b small);
  second = λ b small. sweeps-more (dynamics_of c.args.plan.now b c.args.slot) c.sweeps.counter _ (part_copy c.args.plan.now.size b c.sweeps.duo.second) _ (c.sweep_once.ensures.second c.args.slot b c.rule_of_slot-rule.ensures small) (c.sweeps.invariant.second b small);
}
