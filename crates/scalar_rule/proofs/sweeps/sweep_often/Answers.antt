use Rattle.std.proofs.Common.{sym, ap, ◌∙◌, refl}
use Rattle.spin_model.proofs.Stepping.{steps-zero, steps-more}
use Rattle.scalar_rule.specs.SlotRules.{dynamics_with}
use Rattle.scalar_rule.specs.Sweep.{sweep}
use Rattle.scalar_rule.proofs.sweeps.sweep_often.Goals as goal

pub sweeps-init : goal.sweeps-init
sweeps-init g c = record { swept = sym (steps-zero _ _ _); spins = refl; label = refl; wheels = refl }

pub sweeps-preserved : goal.sweeps-preserved
sweeps-preserved g c = record {
  swept = c.sweep_by.ensures.swept
      ∙ ap (sweep (dynamics_with c.args.lattice.now c.args.rule.now (g.B.Bonds.negative c.args.bonds.now))) c.sweeps.invariant.swept
      ∙ sym (steps-more _ _ _ _);
  spins = c.sweep_by.ensures.spins ∙ c.sweeps.invariant.spins;
  label = c.sweep_by.ensures.label ∙ c.sweeps.invariant.label;
  wheels = c.sweep_by.ensures.wheels ∙ c.sweeps.invariant.wheels;
}
