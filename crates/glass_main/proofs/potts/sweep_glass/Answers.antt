use Rattle.std.proofs.Common.{sym, ap, ◌∙◌}
use Rattle.potts_glass.specs.PottsStates.{swept}
use Rattle.spin_model.proofs.Stepping.{steps-zero, steps-more}
use Rattle.glass_main.proofs.potts.sweep_glass.Goals as goal

pub sweeps-init : goal.sweeps-init
sweeps-init c = sym (steps-zero _ _ _)

pub sweeps-preserved : goal.sweeps-preserved
sweeps-preserved c = c.sweep.ensures ∙ ap (swept c.args.row.now.values) c.sweeps.invariant ∙ sym (steps-more _ _ _ _)
