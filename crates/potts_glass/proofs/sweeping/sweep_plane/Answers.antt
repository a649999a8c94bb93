use Rattle.std.proofs.Common.{refl, sym, ◌∙◌}
use native.Mathlib.Nat.{zero-mul}
use Rattle.spin_model.proofs.Stepping.{steps-zero}
use Rattle.potts_glass.proofs.Sweeps.{row-more}
use Rattle.potts_glass.proofs.sweeping.sweep_plane.Goals as goal

pub rows-init : goal.rows-init
rows-init c = record { colours = λ b h. rw (zero-mul c.args.sweep.now.lattice.now) (sym (steps-zero _ _ _)); sites = refl }

pub rows-preserved : goal.rows-preserved
rows-preserved c = record {
  colours = λ b h. row-more _ _ _ _ _ _ _ (c.rows.invariant.colours b h) (c.sweep_row.ensures.colours b h);
  sites = c.sweep_row.ensures.sites ∙ c.rows.invariant.sites;
}
