-- The first line is of the first plan and of the first banks, and all banks fit.
use Rattle.std.proofs.Common.{◌≡◌, ℕ, ◌*◌, ◌<◌, ◌≤◌, List, map, length, get_or, ap, subst, sym, ◌∙◌, arith}
use Rattle.std.specs.Arc.{arc_value}
use Rattle.std.proofs.lemmas.List.{length-map}
use Rattle.glass_edges.proofs.Writing.{writes-same}
use Rattle.plane_sweep.specs.declared.stand.Stand.{Stand}
use Rattle.report_text.specs.Lines.{kind_text}
use Rattle.run_checkpoint.specs.BankEncoding.{HaveShape}
use Rattle.scalar_rule.specs.Plan.{Plan, slots_of}
use Rattle.threshold_table.specs.Tables.{RuleView}
use Rattle.copies_report.specs.States.{AreStates}
use Rattle.glass_main.specs.CrossRun.{seeded}
use Rattle.glass_main.specs.CrossedPlans.{crossed_of, AreFitting, KeepsCrossed}
use Rattle.glass_main.specs.declared.crossed_states.Crossed.{Crossed}
use Rattle.glass_main.proofs.CrossedStates.{crossed-shown, first-epoch, first-shape, fitting-slots, kept-states, seeded-length, seeded-shape}
use Rattle.glass_main.proofs.cross.put_copies.Goals as goal
use Rattle.glass_main.proofs.cross.put_copies.Goals.{After-as_slice-second}

-- there is a bank in each state
some-first : (crossed : Crossed) → KeepsCrossed (crossed_of crossed) → 1 ≤ length crossed.first
some-first crossed kept =
    let plans = map arc_value crossed.plans.items in
    let shape = kept.are.shape in
    let found = fitting-slots shape.size shape.slots kept.first.epoch plans crossed.first shape.shape kept.first.fit in
    omega (arith, found.1, kept.are.some)

some-second : (crossed : Crossed) → KeepsCrossed (crossed_of crossed) → 1 ≤ length crossed.second
some-second crossed kept =
    let plans = map arc_value crossed.plans.items in
    let shape = kept.are.shape in
    let turned = seeded-shape crossed.seed shape.size shape.slots plans shape.shape in
    let found = fitting-slots shape.size shape.slots kept.second.epoch (seeded crossed.seed plans) crossed.second turned kept.second.fit in
    omega (arith, found.1, seeded-length crossed.seed plans, kept.are.some)

pub at-requires : goal.at-requires
at-requires g c = let some = some-first c.args.crossed.now c.requires.kept in omega (arith, some)

pub at-requires-2 : goal.at-requires-2
at-requires-2 g c = let some = some-second c.args.crossed.now c.requires.kept in omega (arith, some)

some : (g : _) (c : After-as_slice-second g) → 1 ≤ length c.args.crossed.now.plans.items
some g c = omega (arith, c.requires.kept.are.some, length-map c.args.crossed.now.plans.items arc_value)

-- the plan that is read is the first
plan-is : (g : _) (c : After-as_slice-second g) → c.deref-plan.result.now ≡ arc_value (get_or c.args.crossed.now.plans.items 0 c.index-plans-0.result)
plan-is g c = c.deref-plan.ensures ∙ ap arc_value (c.index-plans-0.is ∙ ap (λ xs. get_or xs 0 c.index-plans-0.result) c.deref-plans.ensures.value)

size-is : (g : _) (c : After-as_slice-second g) → c.lattice.result ≡ (arc_value (get_or c.args.crossed.now.plans.items 0 c.index-plans-0.result)).size
size-is g c = c.lattice.ensures.value ∙ ap (λ (p : Plan). p.size) (plan-is g c)

slots-is : (g : _) (c : After-as_slice-second g) → c.slots.result ≡ slots_of (arc_value (get_or c.args.crossed.now.plans.items 0 c.index-plans-0.result))
slots-is g c = c.slots.ensures.value ∙ ap slots_of (plan-is g c)

-- they have the shape of all plans
shape-is : (g : _) (c : After-as_slice-second g) → (c.lattice.result ≡ c.requires.kept.are.shape.size) × (c.slots.result ≡ c.requires.kept.are.shape.slots)
shape-is g c =
    let shape = c.requires.kept.are.shape in
    let first = first-shape arc_value c.args.crossed.now.plans.items c.index-plans-0.result shape.size shape.slots (some g c) shape.shape in
    (size-is g c ∙ first.0, slots-is g c ∙ first.1)

pub write_copies-requires-clause-first : goal.write_copies-requires-clause-first
write_copies-requires-clause-first g c =
    let at = (goal.at.write_copies-requires-clause-first g c).After-as_slice-second in
    let kept = c.requires.kept in
    let plans = map arc_value c.args.crossed.now.plans.items in
    let shape = kept.are.shape in
    subst (AreStates _) (sym c.as_slice-first.ensures)
    (kept-states _ shape.size shape.slots plans c.args.crossed.now.first (shape-is g at).0 (shape-is g at).1 shape.shape kept.first kept.are.samples)

pub write_copies-requires-clause-second : goal.write_copies-requires-clause-second
write_copies-requires-clause-second g c =
    let at = (goal.at.write_copies-requires-clause-second g c).After-as_slice-second in
    let kept = c.requires.kept in
    let plans = map arc_value c.args.crossed.now.plans.items in
    let seed = c.args.crossed.now.seed in
    let shape = kept.are.shape in
    let few : c.args.crossed.now.orders.samples ≤ 64 * length (seeded seed plans) = omega (arith, kept.are.samples, seeded-length seed plans) in
    subst (AreStates _) (sym c.as_slice-second.ensures)
    (kept-states _ shape.size shape.slots (seeded seed plans) c.args.crossed.now.second (shape-is g at).0 (shape-is g at).1
    (seeded-shape seed shape.size shape.slots plans shape.shape) kept.second few)

pub returns : goal.returns
returns g c =
    let at = (goal.at.returns g c).After-as_slice-second in
    let crossed = c.args.crossed.now in
    let kept = c.requires.kept in
    let rule = c.kind_word.ensures.word ∙ ap kind_text (c.kind.ensures ∙ ap (λ (r : RuleView). r.kind) c.rules.ensures.value ∙ ap (λ (p : Plan). p.rules.kind) (plan-is g at)) in
    let one = ap (λ (s : Stand). s.epoch) c.at.ensures ∙ first-epoch crossed.first c.at.result.now (some-first crossed kept) in
    let two = ap (λ (s : Stand). s.epoch) c.at-2.ensures ∙ first-epoch crossed.second c.at-2.result.now (some-second crossed kept) in
    let same = crossed-shown arc_value crossed.plans.items c.index-plans-0.result (crossed_of crossed) _ _ _ _ _ _ _ _ (some g at) (size-is g at) (slots-is g at) rule
    (c.seed.ensures.value ∙ ap (λ (p : Plan). p.seed) (plan-is g at)) one two c.as_slice-first.ensures c.as_slice-second.ensures in
    writes-same same c.write_copies.ensures
