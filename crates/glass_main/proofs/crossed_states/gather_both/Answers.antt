-- A step that stops is the whole's, the second behind the first.
use Rattle.std.proofs.Common.{◌≡◌, List, map, Result, Ok, Err, ap, subst, sym, ◌∙◌}
use Rattle.std.specs.Arc.{arc_value}
use Rattle.std.specs.Prelude.{option_map}
use Rattle.std.proofs.lemmas.Result.{err_from_is_err_and}
use Rattle.plane_sweep.specs.declared.stand.Stand.{Stand}
use Rattle.run_checkpoint.specs.BankEncoding.{HaveOneShape}
use Rattle.scalar_rule.specs.Plan.{Plan}
use Rattle.command_words.specs.ReadCross.{read_cross_order}
use Rattle.glass_main.specs.CrossRun.{CrossedStates, seeded}
use Rattle.glass_main.specs.CrossedPlans.{crossed_read, first_of}
use Rattle.glass_main.specs.Endings.{IsReachedStates}
use Rattle.glass_main.specs.Gathers.{Gathers, Fetches}
use Rattle.glass_main.specs.Outside.{store}
use Rattle.glass_main.specs.Request.{crossed_after, first_at, second_at}
use Rattle.glass_main.specs.declared.crossed_states.Crossed.{Crossed}
use Rattle.glass_main.specs.declared.ending.Ending.{Ending}
use Rattle.glass_main.specs.declared.role.Role.TheVariants as roles
use Rattle.glass_main.proofs.CrossedSteps.{first-stops, second-stops, seeded-one-shape}
use Rattle.glass_main.proofs.crossed_states.gather_both.Goals as goal
use Rattle.glass_main.proofs.crossed_states.gather_both.Goals.{After-gather_second}

-- the second plans
second-plans : (g : _) (c : After-gather_second g) → map arc_value c.deref-2.result.now ≡ seeded c.args.order.now.seed (first_of c.args.plans).plans
second-plans g c = ap (map arc_value) c.deref-2.ensures.value ∙ c.requires.kept.second

pub gather_second-requires-clause-shape : goal.gather_second-requires-clause-shape
gather_second-requires-clause-shape g c =
    subst HaveOneShape (sym (ap (map arc_value) c.deref-2.ensures.value ∙ c.requires.kept.second))
    (seeded-one-shape c.args.order.now.seed (first_of c.args.plans).plans c.requires.kept.are.shape)

pub returns-in_err-first-clause-asked : goal.returns-in_err-first-clause-asked
returns-in_err-first-clause-asked g c =
    let order = read_cross_order c.args.order.now in
    let planned = first_of c.args.plans in
    let old = store g.H.Shelf c.args.shelf.now in
    let new = store g.H.Shelf c.gather_first.new.shelf in
    let p = err_from_is_err_and c.from_residual.result c.from_residual.ensures.1 in
    let read : Gathers {A = List Stand} (option_map (first_at planned.plans order.first) old.holds) (Fetches roles.Checkpoint) (Err c.in_err-first.field-0.0) old new =
    subst (λ (plans : List Plan). Gathers {A = List Stand} (option_map (first_at plans order.first) old.holds) (Fetches roles.Checkpoint) (Err c.in_err-first.field-0.0) old new)
    (ap (map arc_value) c.deref.ensures.value) c.in_err-first.ensures.asked in
    subst (λ (r : Result Crossed Ending). Gathers {A = CrossedStates} (option_map (crossed_after order planned) old.holds) (IsReachedStates order planned old.holds) (crossed_read r) old new)
    (sym (p.1 ∙ ap (λ (e : Ending). Err e) p.2)) (first-stops order planned c.in_err-first.field-0.0 old new read)

pub returns-in_err-second-clause-asked : goal.returns-in_err-second-clause-asked
returns-in_err-second-clause-asked g c =
    let at = (goal.at.returns-in_err-second-clause-asked g c).After-gather_second in
    let order = read_cross_order c.args.order.now in
    let planned = first_of c.args.plans in
    let old = store g.H.Shelf c.args.shelf.now in
    let mid = store g.H.Shelf c.gather_first.new.shelf in
    let new = store g.H.Shelf c.gather_second.new.shelf in
    let p = err_from_is_err_and c.from_residual-in_err-second.result c.from_residual-in_err-second.ensures.1 in
    let one : Gathers {A = List Stand} (option_map (first_at planned.plans order.first) old.holds) (Fetches roles.Checkpoint) (Ok c.in_ok-first.first) old mid =
    subst (λ (plans : List Plan). Gathers {A = List Stand} (option_map (first_at plans order.first) old.holds) (Fetches roles.Checkpoint) (Ok c.in_ok-first.first) old mid)
    (ap (map arc_value) c.deref.ensures.value) c.in_ok-first.ensures.asked in
    let two : Gathers {A = List Stand} (option_map (second_at (seeded order.seed planned.plans) order.second) mid.holds) (Fetches roles.SecondCheckpoint) (Err c.in_err-second.field-0.0) mid new =
    subst (λ (plans : List Plan). Gathers {A = List Stand} (option_map (second_at plans order.second) mid.holds) (Fetches roles.SecondCheckpoint) (Err c.in_err-second.field-0.0) mid new)
    (second-plans g at) c.in_err-second.ensures.asked in
    subst (λ (r : Result Crossed Ending). Gathers {A = CrossedStates} (option_map (crossed_after order planned) old.holds) (IsReachedStates order planned old.holds) (crossed_read r) old new)
    (sym (p.1 ∙ ap (λ (e : Ending). Err e) p.2)) (second-stops order planned c.in_ok-first.first c.in_err-second.field-0.0 old mid new one two)
