-- One bank after the other.
use Rattle.std.proofs.Common.{arith, ◌≡◌, ℕ, ◌+◌, ◌-◌, ◌*◌, ◌<◌, ◌≤◌, min, List, [], ◌∷◌, ◌++◌, length, map, drop, get_or, refl, sym, ap, ap₂, ◌∙◌, subst, append_assoc, append-nil, length-append}
use Rattle.std.proofs.Math.Nat.{mul-le-mul_right}
use Rattle.std.proofs.lemmas.List.{length-map}
use Rattle.run_checkpoint.specs.BankEncoding.{BanksFit, bank_len}
use Rattle.run_checkpoint.specs.Lengths.{encoding_len}
use Rattle.run_checkpoint.proofs.BankSteps.{next-item}
use Rattle.run_plan.specs.Amounts.{row_count}
use Rattle.scalar_rule.specs.Records.{recorded_epochs}
use Rattle.run_plan.specs.declared.run_file.Orders.{Orders}
use Rattle.scalar_rule.specs.Plan.{Plan, slots_of}
use Rattle.plane_sweep.specs.Packed.{StandFits}
use Rattle.plane_sweep.specs.declared.stand.Stand.{Stand}
use Rattle.glass_engine.specs.BankRuns.{bank_run, bank_runs, for_samples, AreBankStarts}
use Rattle.glass_engine.specs.Runs.{RunView}
use Rattle.glass_engine.specs.declared.run.SaveKind.{SaveKind}
use Rattle.glass_engine.proofs.BankStarts.{fit-drop, fit-long, fit-first, shape-drop, shape-first, runs-next, runs-none}

pub nothing-left : {X : Type 0} (xs : List X) → length xs ≡ 0 → xs ≡ []
nothing-left [] none = refl
nothing-left (x ∷ xs) none = absurd (omega arith)

-- the length of the first plan's checkpoint
pub first-len : {X : Type 0} (f : X → Plan) (xs : List X) (x : X) → 0 < length xs → x ≡ get_or xs 0 x → bank_len (map f xs) ≡ encoding_len (f x).size (slots_of (f x))
unfolding bank_len
first-len f [] x some is = absurd (omega arith)
first-len f (y ∷ ys) x some is = ap (λ z. encoding_len (f z).size (slots_of (f z))) (sym is)

rows-fewer : (m n s t r k : ℕ) → m ≤ n → s ≡ t → n * t * r ≤ k → m * s * r ≤ k
rows-fewer m n s t r k less same all =
    let here : n * s * r ≡ n * t * r = ap (λ z. n * z * r) same in
    let a = mul-le-mul_right s less in
    let b = mul-le-mul_right r a in
    omega arith

module _ {X : Type 0} (f : X → Plan) (plans : List X) (stands : List Stand) (orders : Orders) (until : ℕ) (starts : AreBankStarts (map f plans) stands orders until)
    (yielded rest : List Stand) (stand : Stand) (steps : yielded ++ stand ∷ rest ≡ stands) where
  -- it has a plan
  pub next-within : length yielded < length plans
  next-within =
      let a = fit-long starts.epoch (map f plans) stands starts.fit in
      let b = length-map plans f in
      let c = ap length (sym steps) ∙ length-append yielded (stand ∷ rest) in
      omega arith

  module _ (x : X) (is : x ≡ get_or plans (length yielded) x) where
    cut : drop (length yielded) (map f plans) ≡ f x ∷ drop (length yielded + 1) (map f plans)
    cut = next-item f plans (length yielded) x next-within is

    here : BanksFit starts.epoch (drop (length yielded) (map f plans)) (stand ∷ rest)
    here = fit-drop starts.epoch (map f plans) yielded (stand ∷ rest) (subst (BanksFit starts.epoch (map f plans)) (sym steps) starts.fit)

    pub next-fits : StandFits (f x) stand × (stand.epoch ≡ starts.epoch)
    next-fits = fit-first starts.epoch (drop (length yielded) (map f plans)) (drop (length yielded + 1) (map f plans)) (f x) stand rest cut here

    pub next-rows : (m : ℕ) → m ≤ orders.samples → row_count (f x) (for_samples m orders) stand.epoch until ≤ 4194304
    next-rows m less =
        let slots = (shape-first starts.size starts.slots (drop (length yielded) (map f plans)) (drop (length yielded + 1) (map f plans)) (f x) cut (shape-drop starts.size starts.slots (length yielded) (map f plans) starts.shape)).1 in
        let all = rows-fewer m orders.samples (slots_of (f x)) starts.slots (recorded_epochs orders.every starts.epoch until) 4194304 less slots starts.rows in
        let R : ℕ → Type 0 = λ e. m * slots_of (f x) * recorded_epochs orders.every e until ≤ 4194304 in
        subst R (sym next-fits.1) all

    pub runs-step : (kind : SaveKind) (runs total : List RunView) (run : RunView)
        → run ≡ bank_run (f x) stand (for_samples (min (orders.samples - 64 * length yielded) 64) orders) until kind
        → runs ++ bank_runs (drop (length yielded) (map f plans)) (stand ∷ rest) (for_samples (orders.samples - 64 * length yielded) orders) until kind ≡ total
        → (runs ++ run ∷ []) ++ bank_runs (drop (length (yielded ++ stand ∷ [])) (map f plans)) rest (for_samples (orders.samples - 64 * length (yielded ++ stand ∷ [])) orders) until kind ≡ total
    runs-step kind runs total run own so_far =
        let g = length yielded in
        let all = map f plans in
        let more : length (yielded ++ stand ∷ []) ≡ g + 1 = length-append yielded (stand ∷ []) in
        let less : orders.samples - 64 * (g + 1) ≡ orders.samples - 64 * g - 64 = omega arith in
        let first = bank_run (f x) stand (for_samples (min (orders.samples - 64 * g) 64) orders) until kind in
        let tail : run ∷ bank_runs (drop (length (yielded ++ stand ∷ [])) all) rest (for_samples (orders.samples - 64 * length (yielded ++ stand ∷ [])) orders) until kind
        ≡ bank_runs (drop g all) (stand ∷ rest) (for_samples (orders.samples - 64 * g) orders) until kind =
        ap₂ (λ r k. r ∷ bank_runs (drop k all) rest (for_samples (orders.samples - 64 * k) orders) until kind) own more
        ∙ ap (λ s. first ∷ bank_runs (drop (g + 1) all) rest (for_samples s orders) until kind) less
        ∙ sym (runs-next (drop g all) (drop (g + 1) all) (f x) stand rest (for_samples (orders.samples - 64 * g) orders) until kind cut) in
        append_assoc runs (run ∷ []) _ ∙ ap (λ rs. runs ++ rs) tail ∙ so_far

pub runs-end : (plans : List Plan) (left : List Stand) (orders : Orders) (until : ℕ) (kind : SaveKind) (runs total : List RunView) → left ≡ [] → runs ++ bank_runs plans left orders until kind ≡ total → runs ≡ total
runs-end plans left orders until kind runs total none so_far =
    sym (append-nil runs) ∙ ap (λ rs. runs ++ rs) (sym (ap (λ xs. bank_runs plans xs orders until kind) none ∙ runs-none plans orders until kind)) ∙ so_far
