use Rattle.std.specs.Arc.{arc_value}
use Rattle.std.proofs.Common.{ap₂, ap, ◌∙◌}
use Rattle.run_checkpoint.specs.Lengths.{encoding_len}
use Rattle.scalar_rule.specs.Plan.{Plan, slots_of}
use Rattle.kept_states.proofs.LevelClauses.{one-len, many-len}
use Rattle.kept_states.proofs.level_reading.level_length.Goals as goal

pub returns-then-plans-eq1-clause-value : goal.returns-then-plans-eq1-clause-value
returns-then-plans-eq1-clause-value c =
    one-len arc_value c.args.plans.now c.index-plans-0.result c.index-plans-0-2.result c.length-bank.result c.if-plans-eq1.true c.index-plans-0.is c.index-plans-0-2.is
    (c.length-bank.ensures.value ∙ ap₂ encoding_len (c.size.ensures.value ∙ c.lattice.ensures.value ∙ ap (λ (p : Plan). p.size) c.deref.ensures) (c.slots.ensures.value ∙ ap slots_of c.deref-2.ensures))

pub returns-else-plans-eq1-clause-value : goal.returns-else-plans-eq1-clause-value
returns-else-plans-eq1-clause-value c =
    many-len arc_value c.args.plans.now c.index-plans-0.result c.index-plans-0-2.result c.length-bank.result c.requires.some c.if-plans-eq1.false c.index-plans-0.is c.index-plans-0-2.is
    (c.length-bank.ensures.value ∙ ap₂ encoding_len (c.size.ensures.value ∙ c.lattice.ensures.value ∙ ap (λ (p : Plan). p.size) c.deref.ensures) (c.slots.ensures.value ∙ ap slots_of c.deref-2.ensures))
