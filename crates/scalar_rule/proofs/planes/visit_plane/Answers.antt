use Rattle.std.proofs.Common.{◌∙◌, sym}
use Rattle.spin_model.proofs.Stepping.{steps-zero, steps-more}
use Rattle.scalar_rule.proofs.planes.visit_plane.Goals as goal

pub sites-init : goal.sites-init
sites-init g c = sym (steps-zero _ _ _)

pub sites-preserved : goal.sites-preserved
sites-preserved g c = c.visit.ensures ∙ rw (c.sites.invariant, c.size-size.ensures.value) (sym (steps-more _ _ _ _))
