-- No earlier slot has the label so far.
use Rattle.std.proofs.Common.{sym, ◌∙◌}
use Rattle.run_checkpoint.proofs.FirstOf.{some-found, some-none, some-more, is-true}
use Rattle.run_checkpoint.proofs.labels.is_wrong.Goals as goal
use Rattle.std.proofs.lemmas.Bool.{eq-eqb, ne_eqb}

pub slots-init : goal.slots-init
slots-init c = some-none _

pub returns-then-label-own : goal.returns-then-label-own
returns-then-label-own c = is-true _ _ (some-found _ _ c.slots.earlier c.slots-test.true (eq-eqb _ _ (sym c.label.ensures ∙ (c.if-label-own.true ∙ c.label-own.ensures))))

pub slots-preserved : goal.slots-preserved
slots-preserved c = some-more _ _ c.slots.invariant (rw (← c.label.ensures, ← c.label-own.ensures) (ne_eqb _ _ c.if-label-own.false))
