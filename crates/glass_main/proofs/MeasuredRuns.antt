-- What a run that is measured prints and saves is what is asked for.
use Rattle.std.proofs.Common.{arith, ◌≡◌, ℕ, ◌<◌, List, [], ◌∷◌, ◌++◌, length, Option, refl, ap, subst}
use Rattle.glass_engine.specs.BankLaws.{banks_with}
use Rattle.measured_run.specs.Runs.{RunView, states_at, checkpoint_at}
use Rattle.plane_sweep.specs.declared.stand.Stand.{Stand}
use Rattle.run_checkpoint.specs.BankEncoding.{banks_encoding, banks_parts, AreBanks, BanksStand}
use Rattle.scalar_rule.specs.Plan.{Plan}
use Rattle.scalar_rule.specs.declared.sample.Sample.{Sample}
use Rattle.glass_main.specs.ManyBanks.{PlannedBanks, banks_at}
use Rattle.glass_main.specs.MeasureRun.{level_encoding, measured_bytes}
use Rattle.glass_main.specs.Outside.{Store}
use Rattle.glass_main.specs.Resumes.{AreResumable}
use Rattle.glass_main.specs.Statuses.{Saved}
use Rattle.glass_main.proofs.BankStands.{parts-stand}

-- the states at an epoch, bank by bank
pub states-same : (plans : List Plan) (starts : List (ℕ → Sample)) (e : ℕ) → states_at plans starts e ≡ banks_at plans starts e
unfolding states_at banks_with
states-same [] starts e = refl
states-same (plan ∷ plans) [] e = refl
states-same (plan ∷ plans) (start ∷ starts) e = ap (λ xs. banks_at (plan ∷ []) (start ∷ []) e ++ xs) (states-same plans starts e)

-- and their checkpoint
pub checkpoint-same : (plans : List Plan) (starts : List (ℕ → Sample)) (stands : List Stand) (e : ℕ) → 0 < length plans → BanksStand plans starts stands
    → checkpoint_at plans starts e ≡ level_encoding plans (banks_at plans starts e)
unfolding checkpoint_at level_encoding banks_with BanksStand
checkpoint-same [] starts stands e some all = absurd (omega arith)
checkpoint-same (plan ∷ []) [] [] e some all = absurd all
checkpoint-same (plan ∷ []) [] (x ∷ xs) e some all = absurd all
checkpoint-same (plan ∷ []) (start ∷ starts) stands e some all = refl
checkpoint-same (plan ∷ next ∷ plans) starts stands e some all = ap (banks_encoding (plan ∷ next ∷ plans)) (states-same (plan ∷ next ∷ plans) starts e)

-- there are states for which packed states stand
pub some-starts : (plans : List Plan) (until : ℕ) (stands : List Stand) → AreResumable plans until stands → BanksStand plans (banks_parts plans stands) stands
some-starts plans until stands r = parts-stand r.epoch plans stands r.fit

-- ---- what is asked for

-- the states of a run at its end fit the plans that are asked for
pub measured-fit : (planned : PlannedBanks) (run : RunView) (starts : List (ℕ → Sample)) → run.plans ≡ planned.plans → AreBanks run.until run.plans (states_at run.plans starts run.until)
    → AreBanks run.until planned.plans (banks_at planned.plans starts run.until)
measured-fit planned run starts plans fit =
    let F : List Plan → Type 0 = λ ps. AreBanks run.until ps (states_at ps starts run.until) in
    subst (AreBanks run.until planned.plans) (states-same planned.plans starts run.until) (subst F plans fit)

-- and their checkpoint is the one that is asked for
pub measured-saved : (planned : PlannedBanks) (run done : RunView) (starts : List (ℕ → Sample)) (name : Option (List ℕ)) (held holds : Store) → 0 < length planned.plans → run.plans ≡ planned.plans → done ≡ run
    → BanksStand planned.plans starts run.bases
    → (BanksStand done.plans starts done.bases → Saved name (checkpoint_at done.plans starts done.until) held holds)
    → Saved name (measured_bytes planned starts run.until) held holds
measured-saved planned run done starts name held holds some plans same packed saved =
    let D : RunView → Type 0 = λ d. BanksStand d.plans starts d.bases → Saved name (checkpoint_at d.plans starts d.until) held holds in
    let P : List Plan → Type 0 = λ ps. BanksStand ps starts run.bases → Saved name (checkpoint_at ps starts run.until) held holds in
    let at = subst P plans (subst D same saved) packed in
    subst (λ (bytes : List ℕ). Saved name bytes held holds) (checkpoint-same planned.plans starts run.bases run.until some packed) at
