-- The runs of banks as they are driven.
use Rattle.std.proofs.Common.{arith, ◌≡◌, ℕ, ◌<◌, List, [], ◌∷◌, ◌++◌, length, map, drop, get_or, refl, sym, ap, ◌∙◌, length-append}
use Rattle.std.proofs.lemmas.List.{length-map, get_or-map}
use Rattle.run_checkpoint.proofs.BankSteps.{next-item}
use Rattle.scalar_rule.specs.Plan.{Plan}
use Rattle.glass_engine.specs.BankRuns.{plans_of, runs_of}
use Rattle.glass_engine.specs.Runs.{RunView, DoneView}

-- ---- the plan of the next bank

drop-plans : (yielded rest : List RunView) (run : RunView) → drop (length yielded) (plans_of (yielded ++ run ∷ rest)) ≡ run.plan ∷ plans_of rest
drop-plans [] rest run = refl
drop-plans (y ∷ ys) rest run = drop-plans ys rest run

module _ {X : Type 0} (f : X → Plan) (plans : List X) (runs yielded rest : List RunView) (run : RunView) (same : map f plans ≡ plans_of runs) (steps : yielded ++ run ∷ rest ≡ runs) where
  pub plan-within : length yielded < length plans
  plan-within =
      let a = ap length same in
      let b = length-map plans f in
      let c = length-map runs (λ (r : RunView). r.plan) in
      let d = ap length steps in
      let e = length-append yielded (run ∷ rest) in
      omega arith

  pub plan-at : (p : X) → p ≡ get_or plans (length yielded) p → f p ≡ run.plan
  plan-at p is =
      let cut = next-item f plans (length yielded) p plan-within is in
      let own = ap (drop (length yielded)) (same ∙ ap plans_of (sym steps)) ∙ drop-plans yielded rest run in
      ap (λ ps. get_or ps 0 (f p)) (sym cut ∙ own)

pub same-count : {X : Type 0} (f : X → Plan) (plans : List X) (ds : List DoneView) → map f plans ≡ plans_of (runs_of ds) → length plans ≡ length ds
same-count f plans ds same =
    let a = ap length same in
    let b = length-map plans f in
    let c = length-map (runs_of ds) (λ (r : RunView). r.plan) in
    let d = length-map ds (λ (x : DoneView). x.run) in
    omega arith

-- the plan of a bank that was driven
pub bank-plan : {X : Type 0} (f : X → Plan) (plans : List X) (ds : List DoneView) → map f plans ≡ plans_of (runs_of ds) → (k : ℕ) → k < length ds → (p : X) → p ≡ get_or plans k p → (d : DoneView) → d ≡ get_or ds k d
    → f p ≡ d.run.plan
bank-plan f plans ds same k within p p_is d d_is =
    let run : d.run ≡ get_or (runs_of ds) k d.run = sym (get_or-map (λ (x : DoneView). x.run) ds k d d.run within ∙ ap (λ (x : DoneView). x.run) (sym d_is)) in
    let cut = next-item f plans k p (omega (arith, same-count f plans ds same)) p_is in
    let own = next-item (λ (r : RunView). r.plan) (runs_of ds) k d.run (omega (arith, length-map ds (λ (x : DoneView). x.run))) run in
    ap (λ ps. get_or ps 0 (f p)) (sym cut ∙ ap (drop k) same ∙ own)

-- ---- a bank more

pub runs-push : (ds : List DoneView) (d : DoneView) → runs_of (ds ++ d ∷ []) ≡ runs_of ds ++ d.run ∷ []
runs-push [] d = refl
runs-push (x ∷ ds) d = ap (λ rs. x.run ∷ rs) (runs-push ds d)
