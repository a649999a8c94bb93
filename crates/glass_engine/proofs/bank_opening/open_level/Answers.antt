use Rattle.std.proofs.Common.{arith, ap, ◌∙◌, sym, subst, ◌<◌, ◌≤◌, ℕ, length}
use Rattle.std.specs.Arc.{arc_value}
use Rattle.plane_sweep.proofs.LevelStands.{level-floor}
use Rattle.plane_sweep.specs.Uneven.{positions_of}
use Rattle.plane_sweep.specs.declared.uneven.RaggedStand.{RaggedStand}
use Rattle.run_plan.specs.Amounts.{row_count}
use Rattle.scalar_rule.specs.Plan.{Plan, slots_of}
use Rattle.scalar_rule.specs.Positions.{deepest_of, floor_of}
use Rattle.glass_engine.proofs.bank_opening.open_level.Goals as goal

pub open_bank-requires-clause-base : goal.open_bank-requires-clause-base
open_bank-requires-clause-base c = c.in_ok-base.ensures.fits (arc_value c.args.plan.now) c.args.orders.now.samples c.args.orders.now.every c.requires.stand c.requires.orders.some_samples c.requires.orders.few_samples c.requires.orders.some_every

pub open_bank-requires-clause-reach : goal.open_bank-requires-clause-reach
open_bank-requires-clause-reach c =
    let some : 0 < length c.args.stand.slots = omega (arith, c.requires.stand.slots, ap (λ (p : Plan). slots_of p) c.deref.ensures, c.slots.ensures.lawful.rules.some) in
    let at = ap (λ (r : RaggedStand). deepest_of (positions_of r)) c.in_ok-base.ensures.level ∙ (level-floor c.args.stand some).1 in
    omega (arith, at, c.requires.window)

pub open_bank-requires-clause-rows : goal.open_bank-requires-clause-rows
open_bank-requires-clause-rows c =
    let some : 0 < length c.args.stand.slots = omega (arith, c.requires.stand.slots, ap (λ (p : Plan). slots_of p) c.deref.ensures, c.slots.ensures.lawful.rules.some) in
    let at = ap (λ (r : RaggedStand). floor_of (positions_of r)) c.in_ok-base.ensures.level ∙ (level-floor c.args.stand some).0 in
    let R : ℕ → Type 0 = λ e. row_count (arc_value c.args.plan.now) c.args.orders.now e c.args.until ≤ 4194304 in
    subst R (sym at) c.requires.rows
