-- The buffer of a checkpoint: it stays long enough, and what is written into it is the checkpoint of the run.
use Rattle.std.proofs.Common.{arith, ◌≡◌, ℕ, ◌*◌, ◌^◌, ◌<◌, ◌≤◌, List, [], ◌∷◌, length, get_or, refl, sym, ap, ◌∙◌, subst}
use Rattle.std.specs.Prelude.{All, ◌≢◌}
use Rattle.std.proofs.lemmas.List.Elements.{All-head}
use Rattle.spin_model.specs.Limits.{every_take}
use Rattle.std.proofs.lemmas.List.{length-map}
use Rattle.scalar_rule.specs.Plan.{Plan, slots_of, IsLawfulPlan}
use Rattle.scalar_rule.specs.Ragged.{Position}
use Rattle.scalar_rule.proofs.InStep.{pending-few}
use Rattle.plane_sweep.specs.Packed.{StandFits}
use Rattle.plane_sweep.specs.Uneven.{place_at, position_of, positions_of, level_stand, RaggedStandFits}
use Rattle.plane_sweep.specs.declared.uneven.RaggedStand.{RaggedStand}
use Rattle.plane_sweep.proofs.LevelStands.{position-at}
use Rattle.exchange_board.specs.Content.{plan_of}
use Rattle.run_checkpoint.specs.Encoding.{flattened}
use Rattle.run_checkpoint.specs.Lengths.{uneven_len}
use Rattle.run_checkpoint.proofs.UnevenForm.{uneven-long}
use Rattle.run_plan.specs.declared.run_file.Orders.{Orders}
use Rattle.glass_engine.specs.BankRuns.{runs_of, runs_checkpoint}
use Rattle.glass_engine.specs.KeptRun.{AreRuns, AreBankRuns}
use Rattle.glass_engine.specs.KeptSaving.{kind_of, EndsAs, KeepsSaving}
use Rattle.glass_engine.specs.Runs.{RunView, DoneView, IsEnd}
use Rattle.glass_engine.specs.Saves.{end_checkpoint}
use Rattle.glass_engine.specs.declared.run.SaveKind.TheVariants as saves
use Rattle.glass_engine.specs.declared.saving.Saving.{Saving}
use Rattle.glass_engine.specs.declared.saving.Saving.TheVariants as saving
use Rattle.glass_engine.proofs.SavedRuns.{fits-at, ended-level, ended-flattened}
use Rattle.glass_engine.proofs.WholeRuns.{unstopped-whole}

-- ---- lengths

-- the longest checkpoint has room for the records of any state that fits
pub uneven-room : (plan : Plan) (samples every : ℕ) (stand : RaggedStand) → RaggedStandFits plan samples every stand
    → uneven_len plan.size (slots_of plan) (length stand.pending) ≤ uneven_len plan.size (slots_of plan) (samples * slots_of plan * slots_of plan)
uneven-room plan samples every stand fits =
    let n = slots_of plan in
    let few = pending-few n samples every (positions_of stand) (length-map stand.places position_of ∙ fits.places) fits.in_step in
    omega (arith, few, fits.pending, uneven-long plan.size n (length stand.pending), uneven-long plan.size n (samples * n * n))

-- ---- the state

-- a state that fits is one whose slot 0 is at an epoch of 64 bits
pub flattened-fits : (plan : Plan) (samples every : ℕ) (stand : RaggedStand) → IsLawfulPlan plan → RaggedStandFits plan samples every stand → StandFits plan (flattened stand)
flattened-fits plan samples every stand lawful fits =
    let some = lawful.rules.some in
    let at = position-at stand.places 0 (omega (arith, fits.places, some)) in
    let small : (place_at stand.places 0).epoch < 2 ^ 64 = subst (λ (p : Position). p.epoch < 2 ^ 64) at (fits.epochs 0 some) in
    fits-at plan samples every (place_at stand.places 0).epoch stand fits small

-- a bank at its end fits its orders
pub done-fits : (d : DoneView) → IsEnd d.run d.ended → RaggedStandFits d.run.plan d.run.orders.samples d.run.orders.every d.ended.stand
done-fits d e =
    let F : Plan → ℕ → ℕ → Type 0 = λ p samples every. RaggedStandFits p samples every d.ended.stand in
    let o = d.ended.origin in
    subst (λ p. F p d.run.orders.samples d.run.orders.every) e.origin.plan_is
    (subst (F (plan_of o) d.run.orders.samples) e.origin.every_is (subst (λ n. F (plan_of o) n o.window.every) e.origin.samples_is e.stop.fits))

ends-as : (kept : Saving) (stand : RaggedStand) → (kind_of kept ≡ saves.Level → stand ≡ level_stand (flattened stand)) → EndsAs kept stand
ends-as saving.Never stand is = tt
ends-as (saving.Level room) stand is = is refl
ends-as (saving.Ragged room) stand is = tt

-- and where it is saved as one at one epoch it is at one
pub done-ends : (d : DoneView) (kept : Saving) → IsEnd d.run d.ended → (kind_of kept ≡ saves.Level → d.run.takes ≡ every_take) → EndsAs kept d.ended.stand
done-ends d kept e whole = ends-as kept d.ended.stand (λ level.
    let run = d.run in
    let w = unstopped-whole run d.ended (whole level) e in
    let small : run.until < 2 ^ 64 = let z = e.lawful.until in let y = e.origin.until_is in omega arith in
    let some : 0 < length d.ended.stand.places = omega (arith, e.stop.fits.places, e.lawful.plan.rules.some) in
    ended-level run.plan run.orders.samples run.orders.every run.until d.ended.stand (done-fits d e) small w.places
    ∙ sym (ap level_stand (ended-flattened run.until d.ended.stand some w.places)))

-- ---- what is kept of the buffer

-- it is for the checkpoint that is to be saved
pub kept-kind : (ds : List DoneView) (kept : Saving) → AreRuns (runs_of ds) → KeepsSaving (runs_of ds) kept → All (λ (d : DoneView). d.run.saves ≢ saves.Never) ds → kind_of kept ≢ saves.Never
kept-kind [] kept are keeps some = absurd are
kept-kind (d ∷ ds) kept are keeps some = λ is.
    All-head (λ (x : DoneView). x.run.saves ≢ saves.Never) d ds some (All-head (λ (r : RunView). r.saves ≡ kind_of kept) d.run (runs_of ds) keeps.kind ∙ is)

-- ---- one bank

pub alone : (ds : List DoneView) (d : DoneView) → length ds ≡ 1 → d ≡ get_or ds 0 d → ds ≡ d ∷ []
alone [] d one is = absurd (omega arith)
alone (x ∷ []) d one is = ap (λ y. y ∷ []) (sym is)
alone (x ∷ y ∷ ds) d one is = absurd (omega arith)

-- ---- several

pub several-runs : (ds : List DoneView) → length ds ≢ 1 → AreRuns (runs_of ds) → (orders : Orders) × AreBankRuns orders (runs_of ds)
several-runs [] more are = absurd are
several-runs (d ∷ []) more are = absurd (more refl)
several-runs (d ∷ next ∷ ds) more are = are

pub several-bytes : (ds : List DoneView) → 2 ≤ length ds → runs_checkpoint (runs_of ds) ≡ end_checkpoint ds
several-bytes [] more = absurd (omega arith)
several-bytes (d ∷ []) more = absurd (omega arith)
several-bytes (d ∷ next ∷ ds) more = refl
