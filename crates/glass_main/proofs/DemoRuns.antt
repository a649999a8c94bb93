-- The run whose plan is made from a number: what it starts from, and the text of its summary.
use Rattle.std.proofs.Common.{◌≡◌, ℕ, ◌<◌, List, [], ◌∷◌, length, map, get_or, ap, sym, ◌∙◌, subst, arith, lit<}
use Rattle.glass_engine.specs.BankRuns.{plans_of}
use Rattle.glass_engine.specs.Runs.{RunView}
use Rattle.glass_engine.specs.Summary.{BeginsLevel}
use Rattle.plane_sweep.specs.Packed.{part, StandFits, StandsFor}
use Rattle.plane_sweep.specs.Uneven.{level_stand}
use Rattle.plane_sweep.specs.declared.stand.Stand.{Stand}
use Rattle.run_plan.specs.DemoPlan.{demo_plan, slot_thresholds}
use Rattle.scalar_rule.specs.Opening.{opening}
use Rattle.scalar_rule.specs.Plan.{Plan, slots_of}
use Rattle.scalar_rule.specs.declared.sample.Sample.{Sample}
use Rattle.scalar_rule.specs.declared.sample.Start.{Start}
use Rattle.spin_model.proofs.Tables.{length-table}

-- its plan has temperature slots
pub some-slots : (n : ℕ) (plan : Plan) → plan ≡ demo_plan n → 0 < slots_of plan
some-slots n plan made = let eight = length-table slot_thresholds 8 in subst (λ (p : Plan). 0 < slots_of p) (sym made) (omega (arith, eight))

-- an opening state is at epoch 0
opening-first : (plan : Plan) (start : Start) (stand : Stand) → StandsFor plan (opening plan start 0) stand → stand.epoch ≡ 0
unfolding part
opening-first plan start stand stands = ap (λ (s : Sample). s.epoch) (stands 0 (lit< tt))

-- a run that is opened with it begins with every slot at rest there
pub begins-opening : (plan : Plan) (start : Start) (stand : Stand) (run : RunView) → run.plan ≡ plan → run.base ≡ level_stand stand → StandFits plan stand → StandsFor plan (opening plan start 0) stand
    → BeginsLevel run (opening plan start 0)
begins-opening plan start stand run is base fits stands = record {
  stand = stand;
  base = base;
  fits = subst (λ (p : Plan). StandFits p stand) (sym is) fits;
  first = opening-first plan start stand stands;
  stands = subst (λ (p : Plan). StandsFor p (opening plan start 0) stand) (sym is) stands;
}

-- its plan is the first that is shared
pub first-plan : {X : Type 0} (f : X → Plan) (xs : List X) (x : X) (runs : List RunView) (run : RunView) → map f xs ≡ plans_of runs → runs ≡ run ∷ [] → x ≡ get_or xs 0 x → f x ≡ run.plan
first-plan f [] x runs run same one is = absurd (omega (arith, ap length same, ap (λ rs. length (plans_of rs)) one))
first-plan f (y ∷ ys) x runs run same one is = ap f is ∙ ap (λ ps. get_or ps 0 (f y)) (same ∙ ap plans_of one)
