-- The runs of banks as they are opened.
use Rattle.std.proofs.Common.{arith, ◌≡◌, ℕ, zero, suc, ◌-◌, ◌*◌, ◌<◌, ◌≤◌, false, min, List, [], ◌∷◌, ◌++◌, length, drop, refl, sym, ap, ◌∙◌, subst}
use Rattle.std.specs.Prelude.{All, ◌≢◌}
use Rattle.spin_model.specs.Limits.{every_take}
use Rattle.std.proofs.lemmas.List.{get_or-replicate}
use Rattle.std.proofs.lemmas.List.Elements.{All-nil, All-cons}
use Rattle.run_checkpoint.specs.BankEncoding.{HaveShape, BanksFit}
use Rattle.run_checkpoint.specs.Encoding.{flattened}
use Rattle.run_plan.specs.declared.run_file.Orders.{Orders}
use Rattle.scalar_rule.specs.Plan.{Plan, slots_of}
use Rattle.plane_sweep.specs.Packed.{StandFits}
use Rattle.plane_sweep.specs.Uneven.{level_stand}
use Rattle.plane_sweep.specs.declared.stand.Stand.{Stand}
use Rattle.plane_sweep.specs.declared.uneven.Place.{Place}
use Rattle.glass_engine.specs.BankRuns.{bank_run, bank_runs, for_samples, plans_of, HaveSamples, AreBankOrders, AreBankStarts}
use Rattle.glass_engine.specs.KeptRun.{Shared, IsBankRun, AreBankRuns, AreRuns}
use Rattle.glass_engine.specs.KeptSaving.{kind_of, banks_need, HasRoom, KeepsSaving}
use Rattle.glass_engine.specs.Runs.{RunView}
use Rattle.glass_engine.specs.declared.saving.Saving.{Saving}
use Rattle.glass_engine.specs.declared.run.SaveKind.{SaveKind}
use Rattle.glass_engine.specs.declared.run.SaveKind.TheVariants as saves

-- ---- banks that are left

pub fit-drop : (epoch : ℕ) (plans : List Plan) (xs ys : List Stand) → BanksFit epoch plans (xs ++ ys) → BanksFit epoch (drop (length xs) plans) ys
unfolding BanksFit
fit-drop epoch plans [] ys fit = fit
fit-drop epoch [] (x ∷ xs) ys fit = absurd fit
fit-drop epoch (plan ∷ plans) (x ∷ xs) ys fit = fit-drop epoch plans xs ys fit.2

pub fit-long : (epoch : ℕ) (plans : List Plan) (stands : List Stand) → BanksFit epoch plans stands → length plans ≡ length stands
unfolding BanksFit
fit-long epoch [] [] fit = refl
fit-long epoch [] (x ∷ xs) fit = absurd fit
fit-long epoch (plan ∷ plans) [] fit = absurd fit
fit-long epoch (plan ∷ plans) (x ∷ xs) fit = ap suc (fit-long epoch plans xs fit.2)

pub shape-drop : (size slots g : ℕ) (plans : List Plan) → HaveShape size slots plans → HaveShape size slots (drop g plans)
unfolding HaveShape
shape-drop size slots zero plans shape = shape
shape-drop size slots (suc g) [] shape = tt
shape-drop size slots (suc g) (plan ∷ plans) shape = shape-drop size slots g plans shape.2

-- the first of them
pub fit-first : (epoch : ℕ) (plans rest : List Plan) (plan : Plan) (stand : Stand) (stands : List Stand) → plans ≡ plan ∷ rest → BanksFit epoch plans (stand ∷ stands)
    → StandFits plan stand × (stand.epoch ≡ epoch)
unfolding BanksFit
fit-first epoch plans rest plan stand stands cut fit =
    let first = subst (λ ps. BanksFit epoch ps (stand ∷ stands)) cut fit in
    (first.0, first.1)

pub shape-first : (size slots : ℕ) (plans rest : List Plan) (plan : Plan) → plans ≡ plan ∷ rest → HaveShape size slots plans → (plan.size ≡ size) × (slots_of plan ≡ slots)
unfolding HaveShape
shape-first size slots plans rest plan cut shape =
    let first = subst (HaveShape size slots) cut shape in
    (first.0, first.1)

-- ---- their runs

pub runs-next : (plans rest : List Plan) (plan : Plan) (stand : Stand) (stands : List Stand) (orders : Orders) (until : ℕ) (kind : SaveKind) → plans ≡ plan ∷ rest
    → bank_runs plans (stand ∷ stands) orders until kind
    ≡ bank_run plan stand (for_samples (min orders.samples 64) orders) until kind ∷ bank_runs rest stands (for_samples (orders.samples - 64) orders) until kind
unfolding bank_runs
runs-next plans rest plan stand stands orders until kind cut = ap (λ ps. bank_runs ps (stand ∷ stands) orders until kind) cut

pub runs-none : (plans : List Plan) (orders : Orders) (until : ℕ) (kind : SaveKind) → bank_runs plans [] orders until kind ≡ []
unfolding bank_runs
runs-none [] orders until kind = refl
runs-none (plan ∷ plans) orders until kind = refl

pub runs-long : (epoch : ℕ) (plans : List Plan) (stands : List Stand) (orders : Orders) (until : ℕ) (kind : SaveKind) → BanksFit epoch plans stands
    → length (bank_runs plans stands orders until kind) ≡ length plans
unfolding bank_runs BanksFit
runs-long epoch [] [] orders until kind fit = refl
runs-long epoch [] (x ∷ xs) orders until kind fit = absurd fit
runs-long epoch (plan ∷ plans) [] orders until kind fit = absurd fit
runs-long epoch (plan ∷ plans) (x ∷ xs) orders until kind fit = ap suc (runs-long epoch plans xs (for_samples (orders.samples - 64) orders) until kind fit.2)

pub runs-plans : (epoch : ℕ) (plans : List Plan) (stands : List Stand) (orders : Orders) (until : ℕ) (kind : SaveKind) → BanksFit epoch plans stands
    → plans_of (bank_runs plans stands orders until kind) ≡ plans
unfolding bank_runs BanksFit
runs-plans epoch [] [] orders until kind fit = refl
runs-plans epoch [] (x ∷ xs) orders until kind fit = absurd fit
runs-plans epoch (plan ∷ plans) [] orders until kind fit = absurd fit
runs-plans epoch (plan ∷ plans) (x ∷ xs) orders until kind fit = ap (λ ps. plan ∷ ps) (runs-plans epoch plans xs (for_samples (orders.samples - 64) orders) until kind fit.2)

-- a state at one epoch as such
pub level-flattened : (stand : Stand) → 0 < length stand.slots → flattened (level_stand stand) ≡ stand
level-flattened stand some =
    let one : Place = record { epoch = stand.epoch; arrived = false } in
    let make : ℕ → Stand = λ e. record { epoch = e; slots = stand.slots; pairs = stand.pairs } in
    ap make (ap (λ (p : Place). p.epoch) (get_or-replicate (length stand.slots) 0 one (record { epoch = 0; arrived = false }) some))

run-is : (shared : Shared) (orders : Orders) (plan : Plan) (stand : Stand) (n : ℕ) (kind : SaveKind) → 0 < shared.slots → plan.size ≡ shared.size → slots_of plan ≡ shared.slots
    → StandFits plan stand → stand.epoch ≡ shared.from → IsBankRun shared orders (bank_run plan stand (for_samples n orders) shared.until kind)
run-is shared orders plan stand n kind some size slots fits from =
    let flat = level-flattened stand (omega (arith, fits.slots, slots)) in
    record {
      size = size;
      slots = slots;
      level = sym (ap level_stand flat);
      fits = subst (StandFits plan) (sym flat) fits;
      from = ap (λ (s : Stand). s.epoch) flat ∙ from;
      until = refl;
      every = refl;
      spins = refl;
      takes = refl;
    }

runs-each : (shared : Shared) (orders : Orders) (plans : List Plan) (stands : List Stand) (n : ℕ) (kind : SaveKind) → 0 < shared.slots → HaveShape shared.size shared.slots plans
    → BanksFit shared.from plans stands → All (IsBankRun shared orders) (bank_runs plans stands (for_samples n orders) shared.until kind)
unfolding bank_runs BanksFit HaveShape
runs-each shared orders [] [] n kind some shape fit = All-nil (IsBankRun shared orders)
runs-each shared orders [] (x ∷ xs) n kind some shape fit = absurd fit
runs-each shared orders (plan ∷ plans) [] n kind some shape fit = absurd fit
runs-each shared orders (plan ∷ plans) (x ∷ xs) n kind some shape fit =
    All-cons (IsBankRun shared orders) (bank_run plan x (for_samples (min n 64) orders) shared.until kind) (bank_runs plans xs (for_samples (n - 64) orders) shared.until kind)
    (run-is shared orders plan x (min n 64) kind some shape.0 shape.1 fit.0 fit.1)
    (runs-each shared orders plans xs (n - 64) kind some shape.2 fit.2)

runs-samples : (epoch : ℕ) (orders : Orders) (plans : List Plan) (stands : List Stand) (n until : ℕ) (kind : SaveKind) → BanksFit epoch plans stands → n ≤ 64 * length plans
    → HaveSamples n (bank_runs plans stands (for_samples n orders) until kind)
unfolding bank_runs BanksFit HaveSamples
runs-samples epoch orders [] [] n until kind fit few = omega arith
runs-samples epoch orders [] (x ∷ xs) n until kind fit few = absurd fit
runs-samples epoch orders (plan ∷ plans) [] n until kind fit few = absurd fit
runs-samples epoch orders (plan ∷ plans) (x ∷ xs) n until kind fit few =
    (refl, runs-samples epoch orders plans xs (n - 64) until kind fit.2 (omega arith))

pub runs-keep : (plans : List Plan) (stands : List Stand) (orders : Orders) (until : ℕ) (kind : SaveKind) (starts : AreBankStarts plans stands orders until) → AreBankOrders (length plans) orders
    → 0 < starts.slots → until ≤ 1000000000 → AreBankRuns orders (bank_runs plans stands orders until kind)
runs-keep plans stands orders until kind starts lawful some short =
    let shared : Shared = record { size = starts.size; slots = starts.slots; from = starts.epoch; until = until } in
    record {
      orders_are = subst (λ n. AreBankOrders n orders) (sym (runs-long starts.epoch plans stands orders until kind starts.fit)) lawful;
      shared = shared;
      in_time = starts.in_time;
      short = short;
      each = runs-each shared orders plans stands orders.samples kind some starts.shape starts.fit;
      samples = runs-samples starts.epoch orders plans stands orders.samples until kind starts.fit lawful.few_samples;
    }

pub runs-saves : (plans : List Plan) (stands : List Stand) (orders : Orders) (until : ℕ) (kind : SaveKind) → All (λ (run : RunView). run.saves ≡ kind) (bank_runs plans stands orders until kind)
unfolding bank_runs
runs-saves [] stands orders until kind = All-nil (λ (run : RunView). run.saves ≡ kind)
runs-saves (plan ∷ plans) [] orders until kind = All-nil (λ (run : RunView). run.saves ≡ kind)
runs-saves (plan ∷ plans) (x ∷ xs) orders until kind =
    All-cons (λ (run : RunView). run.saves ≡ kind) (bank_run plan x (for_samples (min orders.samples 64) orders) until kind) (bank_runs plans xs (for_samples (orders.samples - 64) orders) until kind)
    refl (runs-saves plans xs (for_samples (orders.samples - 64) orders) until kind)

-- ---- several runs as runs

pub several-are : (orders : Orders) (runs : List RunView) → AreBankRuns orders runs → AreRuns runs
several-are orders [] are = absurd (let z = are.orders_are.some_banks in omega arith)
several-are orders (run ∷ []) are = tt
several-are orders (run ∷ next ∷ runs) are = (orders, are)

-- what they keep of their buffer
pub several-keep : (save : SaveKind) (runs : List RunView) (kept : Saving) → 2 ≤ length runs → All (λ (run : RunView). run.takes ≡ every_take) runs → All (λ (run : RunView). run.saves ≡ save) runs
    → save ≢ saves.Ragged → kind_of kept ≡ save → HasRoom (banks_need (plans_of runs)) kept → KeepsSaving runs kept
several-keep save [] kept several takes same never kind room = absurd (omega arith)
several-keep save (run ∷ []) kept several takes same never kind room = absurd (omega arith)
several-keep save (run ∷ next ∷ runs) kept several takes same never kind room = record {
  kind = subst (λ k. All (λ (r : RunView). r.saves ≡ k) (run ∷ next ∷ runs)) (sym kind) same;
  room = room;
  whole = λ level. takes;
  alone = λ uneven. absurd (never (sym kind ∙ uneven));
}
