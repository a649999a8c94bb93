use Rattle.std.specs.Arc.{arc_value}
use Rattle.std.proofs.Common.{[], ◌∷◌, map, sym, ap, ap₂, ◌∙◌, subst}
use Rattle.scalar_rule.specs.Plan.{Plan}
use Rattle.plane_sweep.specs.Uneven.{RaggedStandFits}
use Rattle.glass_main.proofs.run.open_planned.Goals as goal

pub open-requires-clause-base : goal.open-requires-clause-base
open-requires-clause-base c =
    let o = c.args.planned.orders in
    let F : Plan → Type 0 = λ p. RaggedStandFits p o.samples o.every c.args.base in
    subst F (sym c.in_ok-plan.ensures.ok) c.requires.base.fits

pub open-requires-clause-rows : goal.open-requires-clause-rows
open-requires-clause-rows c = rw c.in_ok-plan.ensures.ok c.requires.rows

pub returns : goal.returns
returns c =
    let planned = c.args.planned in
    let share = c.in_ok-plan.ensures.ok in
    record {
      shares = ap (map arc_value) c.in_ok-plans.ensures ∙ ap (λ (p : Plan). p ∷ []) share;
      runs = c.in_ok-run.ensures
          ∙ ap (λ (p : Plan). record { plan = p; base = c.args.base; orders = planned.orders; until = c.args.until; takes = c.takes_of.result; saves = c.kind_of.result } ∷ []) share
          ∙ ap₂ (λ n k. record { plan = planned.plan; base = c.args.base; orders = planned.orders; until = c.args.until; takes = n; saves = k } ∷ []) c.takes_of.ensures.value c.kind_of.ensures;
    }
