use Rattle.std.proofs.Common.{sym, subst}
use Rattle.scalar_rule.specs.Shape.{Fits}
use Rattle.scalar_rule.specs.declared.sample.Sample.{Sample}
use Rattle.plane_sweep.specs.Packed.{PermutesLabels}
use Rattle.plane_sweep.proofs.SampleParts.{part-made, part-fits}
use Rattle.plane_sweep.proofs.stand.Stand.sample.Goals as goal

pub returns-clause-part : goal.returns-clause-part
returns-clause-part c = part-made c.args.plan.now.size c.args.bit c.args.self.now _ _ c.in_ok-sample_slots.ensures c.in_ok-sample_pairs.ensures

pub returns-clause-fits : goal.returns-clause-fits
returns-clause-fits c =
    let F : Sample → Type 0 = λ s. Fits c.args.plan.now s in
    let made = part-made c.args.plan.now.size c.args.bit c.args.self.now _ _ c.in_ok-sample_slots.ensures c.in_ok-sample_pairs.ensures in
    subst F (sym made) (part-fits c.args.plan.now c.args.bit c.args.self.now c.requires.bit c.requires.stand)

pub returns-clause-labels : goal.returns-clause-labels
returns-clause-labels c =
    let P : Sample → Type 0 = λ s. PermutesLabels c.args.plan.now s in
    let made = part-made c.args.plan.now.size c.args.bit c.args.self.now _ _ c.in_ok-sample_slots.ensures c.in_ok-sample_pairs.ensures in
    subst P (sym made) (c.requires.stand.labels c.args.bit c.requires.bit)
