-- The checkpoint of banks that were driven: bank by bank, and it is that of their runs.
use Rattle.std.proofs.Common.{arith, ◌≡◌, ℕ, ◌+◌, ◌*◌, ◌^◌, ◌<◌, ◌≤◌, List, [], ◌∷◌, ◌++◌, length, map, drop, get_or, refl, sym, ap, ap₂, ◌∙◌, subst, append_assoc, append-nil, length-append}
use Rattle.std.specs.Prelude.{All}
use Rattle.std.proofs.Math.Nat.{mul-le-mul_right}
use native.Mathlib.Nat.{mul_comm}
use Rattle.std.proofs.lemmas.List.Elements.{All-head, All-tail, All-get_or}
use Rattle.run_checkpoint.specs.BankEncoding.{banks_header, banks_bytes, banks_encoding, HaveShape, HaveOneShape, bank_len}
use Rattle.run_checkpoint.specs.Encoding.{encoding, flattened, FitsKind}
use Rattle.run_checkpoint.specs.Kinds.{sealed}
use Rattle.run_checkpoint.specs.declared.kinds.Kind.TheVariants as kinds
use Rattle.run_checkpoint.proofs.UnevenForm.{kind-length}
use Rattle.run_checkpoint.specs.Lengths.{encoding_len}
use Rattle.run_checkpoint.proofs.BankSteps.{next-item, no-item, plan-len}
use Rattle.run_checkpoint.proofs.LevelClauses.{encoding-same}
use Rattle.run_plan.specs.declared.run_file.Orders.{Orders}
use Rattle.scalar_rule.specs.Plan.{Plan, slots_of, IsLawfulPlan}
use Rattle.scalar_rule.specs.Serial.{serial}
use Rattle.scalar_rule.specs.declared.sample.Sample.{Sample}
use Rattle.plane_sweep.specs.Packed.{part, StandFits}
use Rattle.plane_sweep.specs.Uneven.{level_stand}
use Rattle.plane_sweep.specs.declared.uneven.RaggedStand.{RaggedStand}
use Rattle.exchange_board.specs.Content.{plan_of}
use Rattle.glass_engine.specs.BankPieces.{ends_in, EndsLevel}
use Rattle.glass_engine.specs.BankRuns.{bank_of, plans_of, runs_of, runs_checkpoint}
use Rattle.glass_engine.specs.Banks.{Bank}
use Rattle.glass_engine.specs.KeptRun.{Shared, AreBankRuns}
use Rattle.glass_engine.specs.Runs.{DoneView, IsEnd}
use Rattle.glass_engine.proofs.BankDrives.{same-count, bank-plan}
use Rattle.glass_engine.proofs.BankReports.{IsBankEnd, bank-ends, serial-end}
use Rattle.glass_engine.proofs.SavedRuns.{ended-level, ended-flattened}
use Rattle.glass_engine.proofs.Savings.{flattened-fits}

-- ---- bank by bank

-- the states that a bank ended with
abbrev end-of : DoneView → ℕ → Sample
end-of d b = part d.run.plan.size b (flattened d.ended.stand)

bytes-next : (plans rest : List Plan) (plan : Plan) (ends more : List (ℕ → Sample)) (end : ℕ → Sample) → plans ≡ plan ∷ rest → ends ≡ end ∷ more
    → banks_bytes plans ends ≡ encoding plan end ++ banks_bytes rest more
unfolding banks_bytes
bytes-next plans rest plan ends more end cut is = ap₂ banks_bytes cut is

bytes-none : (plans : List Plan) (ends : List (ℕ → Sample)) → plans ≡ [] → banks_bytes plans ends ≡ []
unfolding banks_bytes
bytes-none plans ends none = ap (λ ps. banks_bytes ps ends) none

module _ {X : Type 0} (f : X → Plan) (plans : List X) (ds : List DoneView) (same : map f plans ≡ plans_of (runs_of ds)) where
  module _ (k : ℕ) (within : k < length ds) (p : X) (p_is : p ≡ get_or plans k p) (d : DoneView) (d_is : d ≡ get_or ds k d) where
    cut : drop k (map f plans) ≡ f p ∷ drop (k + 1) (map f plans)
    cut = next-item f plans k p (omega (arith, same-count f plans ds same)) p_is

    own : f p ≡ d.run.plan
    own = bank-plan f plans ds same k within p p_is d d_is

    pub level-at : All EndsLevel ds → EndsLevel d
    level-at all = subst EndsLevel (sym d_is) (All-get_or EndsLevel ds k d within all)

    pub fits-at : All EndsLevel ds → FitsKind kinds.Level (f p) d.ended.stand
    fits-at all = ((level-at all).level, subst (λ (q : Plan). StandFits q (flattened d.ended.stand)) (sym own) (level-at all).fits)

    pub bytes-step : (old new whole : List ℕ) (stand : RaggedStand) → stand ≡ d.ended.stand → new ≡ old ++ encoding (f p) (λ b. part (f p).size b (flattened stand))
        → old ++ banks_bytes (drop k (map f plans)) (drop k (ends_in ds)) ≡ whole → new ++ banks_bytes (drop (k + 1) (map f plans)) (drop (k + 1) (ends_in ds)) ≡ whole
    bytes-step old new whole stand stand_is put so_far =
        let rest = banks_bytes (drop (k + 1) (map f plans)) (drop (k + 1) (ends_in ds)) in
        let piece : encoding (f p) (λ b. part (f p).size b (flattened stand)) ≡ encoding (f p) (end-of d) =
        ap₂ (λ (q : Plan) (s : RaggedStand). encoding (f p) (λ b. part q.size b (flattened s))) own stand_is in
        let next = bytes-next (drop k (map f plans)) (drop (k + 1) (map f plans)) (f p) (drop k (ends_in ds)) (drop (k + 1) (ends_in ds)) (end-of d) cut (next-item end-of ds k d within d_is) in
        ap (λ bs. bs ++ rest) (put ∙ ap (λ bs. old ++ bs) piece) ∙ append_assoc old (encoding (f p) (end-of d)) rest ∙ ap (λ bs. old ++ bs) (sym next) ∙ so_far

    pub len-at : HaveOneShape (map f plans) → bank_len (map f plans) ≡ encoding_len (f p).size (slots_of (f p))
    len-at shape = plan-len f plans k p shape (omega (arith, same-count f plans ds same)) p_is

    pub long-step : All EndsLevel ds → HaveOneShape (map f plans) → (old new : List ℕ) (stand : RaggedStand) → stand ≡ d.ended.stand
        → new ≡ old ++ encoding (f p) (λ b. part (f p).size b (flattened stand)) → length new ≡ length old + bank_len (map f plans)
    long-step all shape old new stand stand_is put =
        let lawful = subst IsLawfulPlan (sym own) (level-at all).lawful in
        let one = kind-length kinds.Level (f p) stand lawful (subst (FitsKind kinds.Level (f p)) (sym stand_is) (fits-at all)) in
        let len = len-at shape in
        ap length put ∙ length-append old _ ∙ omega arith

  pub bytes-end : (k : ℕ) → length ds ≤ k → (old whole : List ℕ) → old ++ banks_bytes (drop k (map f plans)) (drop k (ends_in ds)) ≡ whole → old ≡ whole
  bytes-end k past old whole so_far =
      let none = bytes-none (drop k (map f plans)) (drop k (ends_in ds)) (no-item f plans k (omega (arith, same-count f plans ds same))) in
      sym (append-nil old) ∙ ap (λ bs. old ++ bs) (sym none) ∙ so_far

-- what is left for the banks behind
pub left-enough : (len k n : ℕ) → k < n → len * k + len ≤ len * n
left-enough len k n below =
    let next : k + 1 ≤ n = omega arith in
    let most = mul-le-mul_right len next in
    let a : (k + 1) * len ≡ len * k + len = grind arith in
    let b = mul_comm n len in
    omega arith

-- ---- the banks of a run

module _ (orders : Orders) (ds : List DoneView) (runs : AreBankRuns orders (runs_of ds)) (ended : All (λ (d : DoneView). IsEnd d.run d.ended) ds) where
  pub ends-level : All EndsLevel ds
  ends-level = λ k d h.
      let x = get_or ds k d in
      let e = bank-ends orders ds runs ended k d h in
      let w = serial-end runs.shared orders x e in
      let o = x.ended.origin in
      let s = x.ended.stand in
      let fits = e.ended.stop.fits in
      let lawful = e.ended.lawful in
      let small : x.run.until < 2 ^ 64 = let z = lawful.until in let y = e.ended.origin.until_is in omega arith in
      let some : 0 < length s.places = omega (arith, fits.places, lawful.plan.rules.some) in
      record {
        lawful = subst IsLawfulPlan e.ended.origin.plan_is lawful.plan;
        level = ended-level (plan_of o) o.window.samples o.window.every x.run.until s fits small w.places ∙ sym (ap level_stand (ended-flattened x.run.until s some w.places));
        fits = subst (λ (q : Plan). StandFits q (flattened s)) e.ended.origin.plan_is (flattened-fits (plan_of o) o.window.samples o.window.every s lawful.plan fits);
      }

have-shape : (shared : Shared) (orders : Orders) (ds : List DoneView) → All (IsBankEnd shared orders) ds → HaveShape shared.size shared.slots (plans_of (runs_of ds))
unfolding HaveShape
have-shape shared orders [] ends = tt
have-shape shared orders (d ∷ ds) ends =
    let first = (All-head (IsBankEnd shared orders) d ds ends).run in
    (first.size, first.slots, have-shape shared orders ds (All-tail (IsBankEnd shared orders) d ds ends))

pub one-shape : (orders : Orders) (ds : List DoneView) (runs : AreBankRuns orders (runs_of ds)) → All (λ (d : DoneView). IsEnd d.run d.ended) ds → HaveOneShape (plans_of (runs_of ds))
one-shape orders ds runs ended = record {
  size = runs.shared.size;
  slots = runs.shared.slots;
  shape = have-shape runs.shared orders ds (bank-ends orders ds runs ended);
}

banks-plans : (ds : List DoneView) → map (λ (x : Bank). x.plan) (map bank_of (runs_of ds)) ≡ plans_of (runs_of ds)
banks-plans [] = refl
banks-plans (d ∷ ds) = ap (λ ps. d.run.plan ∷ ps) (banks-plans ds)

bytes-serial : (shared : Shared) (orders : Orders) (ds : List DoneView) → All (IsBankEnd shared orders) ds
    → banks_bytes (plans_of (runs_of ds)) (map (λ (x : Bank) (b : ℕ). serial x.plan (x.start b) shared.until) (map bank_of (runs_of ds))) ≡ banks_bytes (plans_of (runs_of ds)) (ends_in ds)
unfolding banks_bytes
bytes-serial shared orders [] ends = refl
bytes-serial shared orders (d ∷ ds) ends =
    let e = All-head (IsBankEnd shared orders) d ds ends in
    let w = serial-end shared orders d e in
    let lawful = e.ended.lawful in
    let some : 0 < length d.ended.stand.places = omega (arith, e.ended.stop.fits.places, lawful.plan.rules.some) in
    let flat = ended-flattened d.run.until d.ended.stand some w.places in
    let one = encoding-same d.run.plan (λ b. serial d.run.plan ((bank_of d.run).start b) shared.until) (end-of d)
    (λ b small. ap (serial d.run.plan ((bank_of d.run).start b)) (sym e.run.until) ∙ sym (w.stand b small) ∙ sym (ap (part d.run.plan.size b) flat)) in
    ap₂ (λ xs ys. xs ++ ys) one (bytes-serial shared orders ds (All-tail (IsBankEnd shared orders) d ds ends))

pub checkpoint-is : (orders : Orders) (ds : List DoneView) (runs : AreBankRuns orders (runs_of ds)) → All (λ (d : DoneView). IsEnd d.run d.ended) ds
    → banks_encoding (plans_of (runs_of ds)) (ends_in ds) ≡ runs_checkpoint (runs_of ds)
unfolding runs_checkpoint banks_encoding
checkpoint-is orders [] runs ended = absurd (let z = runs.orders_are.some_banks in omega arith)
checkpoint-is orders (d ∷ ds) runs ended =
    let all = d ∷ ds in
    let shared = runs.shared in
    let ends = bank-ends orders all runs ended in
    let first = (All-head (IsBankEnd shared orders) d ds ends).run in
    let states : ℕ → List (ℕ → Sample) = λ e. map (λ (x : Bank) (b : ℕ). serial x.plan (x.start b) e) (map bank_of (runs_of all)) in
    let text : List Plan → List ℕ → List ℕ = λ ps bytes. sealed (banks_header (length ps) ++ bytes) in
    ap (text (plans_of (runs_of all))) (sym (bytes-serial shared orders all ends))
    ∙ ap (λ ps. text ps (banks_bytes ps (states shared.until))) (sym (banks-plans all))
    ∙ ap (λ e. text (map (λ (x : Bank). x.plan) (map bank_of (runs_of all))) (banks_bytes (map (λ (x : Bank). x.plan) (map bank_of (runs_of all))) (states e))) (sym first.until)
