-- The report of a run of one bank, from whatever it begins with and wherever it stops, is a lawful report.
use Rattle.std.proofs.Common.{arith, inl, inr, ◌≡◌, ℕ, zero, suc, ◌-◌, ◌*◌, ◌/◌, ◌%◌, ◌<◌, ◌≤◌, Bool, true, false, cond, List, [], ◌++◌, length, refl, sym, ap, ◌∙◌, subst, All}
use Rattle.std.specs.Prelude.{◌&&◌}
use Rattle.std.proofs.lemmas.Bool.{cases_lt}
use Rattle.std.proofs.lemmas.List.{length-map, get_or_default}
use Rattle.report_text.specs.Lines.{header_line, end_line}
use Rattle.run_plan.specs.RunFile.{AreLawfulOrders}
use Rattle.spin_model.specs.Steps.{count_below}
use Rattle.spin_model.specs.Words.{one_if}
use Rattle.spin_model.proofs.Counts.{one_if-most}
use Rattle.scalar_rule.specs.Plan.{Plan, IsLawfulPlan, slots_of}
use Rattle.scalar_rule.specs.Positions.{done, position_in, floor_of, deepest_of, is_pending, cell_epoch, pending_before, pending_record, uneven_record}
use Rattle.scalar_rule.specs.Ragged.{Position, UnevenState, all_ready}
use Rattle.scalar_rule.specs.Records.{measured_from, record_at}
use Rattle.scalar_rule.specs.Serial.{serial}
use Rattle.scalar_rule.proofs.Cells.{cell-encode, cell-within, kept-means}
use Rattle.plane_sweep.specs.Uneven.{position_of, positions_of, uneven_part}
use Rattle.plane_sweep.specs.declared.uneven.RaggedStand.{RaggedStand}
use Rattle.glass_engine.specs.Report.{uneven_measured, all_rest}
use Rattle.glass_main.specs.Beginnings.{Beginning, Level, Uneven, begins_at, run_text}
use Rattle.run_laws.specs.LawfulRuns.{IsLawfulText, IsWithin, KeepsRanges, StopsLawfully}
use Rattle.glass_main.specs.StopLaws.{IsEncodingOf, IsBeginning, reached_by}
use Rattle.glass_main.specs.Stops.{states_of, kept_of, Reaches, ComesTo, rows_to, spins_at, stopped_text}
use Rattle.glass_main.specs.declared.planned.Planned.{Planned}
use Rattle.glass_main.proofs.AddingUp.{run-parts}
use Rattle.run_laws.proofs.LawfulReports.{composed, KeepLabels, opening-kept, stood-kept, level-measured}
use Rattle.glass_main.proofs.ReadStops.{accepted}
use Rattle.run_laws.proofs.UnevenReports.{LabelsWithin, record-kept, uneven-within, least-most}

-- ---- labels

-- those of what a run begins with are slots' numbers, in each of the 64 samples
abbrev BeginsKept : Plan → Beginning → Type 0
BeginsKept plan (Level start) = KeepLabels plan start
BeginsKept plan (Uneven stand) = (b : ℕ) → b < 64 → LabelsWithin plan (uneven_part plan.size b stand)

read-kept : (planned : Planned) (until : ℕ) (bytes : List ℕ) (from : Beginning) → IsEncodingOf planned until bytes from → BeginsKept planned.plan from
read-kept planned until bytes (Level start) are = stood-kept planned.plan start are.0
read-kept planned until bytes (Uneven stand) are = λ b small t below. let p = are.0.labels b small in (p.first.below t below, p.second.below t below)

begun-kept : (planned : Planned) (from : Beginning) → IsLawfulPlan planned.plan → AreLawfulOrders planned.orders → IsBeginning planned from → BeginsKept planned.plan from
begun-kept planned from lawful orders (inl opened) = subst (BeginsKept planned.plan) (sym opened) (opening-kept planned.plan planned.orders.start 0)
begun-kept planned from lawful orders (inr (until, bytes, are, is)) = read-kept planned until bytes from (accepted planned until bytes from lawful orders are is)

state-labels : (plan : Plan) (from : Beginning) (b : ℕ) → b < 64 → BeginsKept plan from → LabelsWithin plan (states_of plan from b)
state-labels plan (Level start) b small keep = λ t below. let p = (keep b small).1 in (p.first.below t below, p.second.below t below)
state-labels plan (Uneven stand) b small keep = keep b small

-- ---- the report

-- of the epochs below e, with spins or without
parts-lawful : (planned : Planned) (from : Beginning) (until e : ℕ) (with : Bool) → IsLawfulPlan planned.plan → AreLawfulOrders planned.orders → BeginsKept planned.plan from → KeepsRanges planned.plan from
    → begins_at from ≤ e → e ≤ 1000000000
    → IsLawfulText (header_line planned.plan planned.orders.samples (begins_at from) e ++ rows_to planned.plan planned.orders.samples planned.orders.every from e ++ end_line e
    ++ cond with (spins_at planned.plan planned.orders.samples from until) [])
parts-lawful planned (Level start) until e with lawful orders keep kept rising within =
    let plan = planned.plan in
    let o = planned.orders in
    composed plan o.samples o.every (start 0).epoch e (measured_from plan start) (λ b. (serial plan (start b) until).slots) with lawful orders.some_samples (omega (arith, orders.few_samples)) rising within
    (λ b f less. level-measured plan start b f (omega (arith, less, orders.few_samples)) keep)
parts-lawful planned (Uneven stand) until e with lawful orders keep kept rising within =
    let plan = planned.plan in
    let o = planned.orders in
    let states : ℕ → UnevenState = λ b. uneven_part plan.size b stand in
    composed plan o.samples o.every (floor_of (positions_of stand)) e (uneven_measured plan states stand.pending o.samples o.every) (λ b. (all_ready plan (states b) until).slots) with lawful
    orders.some_samples (omega (arith, orders.few_samples)) rising within
    (λ b f less. uneven-within plan states stand.pending o.samples o.every b f lawful.rules.some (keep b (omega (arith, less, orders.few_samples))) kept)

-- all slots have completed at most as many epochs as some
begins-before : (from : Beginning) (until : ℕ) → reached_by from ≤ until → begins_at from ≤ until
begins-before (Level start) until upto = upto
begins-before (Uneven stand) until upto =
    let ps = positions_of stand in
    omega (arith, upto, least-most (λ t. done (position_in ps t)) (length ps))

pub run-lawful : (planned : Planned) (from : Beginning) (until : ℕ) → IsLawfulPlan planned.plan → AreLawfulOrders planned.orders → IsBeginning planned from → KeepsRanges planned.plan from
    → reached_by from ≤ until → until ≤ 1000000000 → IsLawfulText (run_text planned from until)
run-lawful planned from until lawful orders begins kept upto within =
    subst IsLawfulText (sym (run-parts planned until from lawful.rules.some))
    (parts-lawful planned from until until planned.orders.spins lawful orders (begun-kept planned from lawful orders begins) kept (begins-before from until upto) within)

-- ---- the records that a stopped run keeps ahead

is-one : (t : Bool) → 0 < one_if t → t ≡ true
is-one true some = refl
is-one false some = absurd (omega (arith, some))

-- the place of number k of those that pass a test
counted-place : (test : ℕ → Bool) (n k : ℕ) → k < count_below test n → (i : ℕ) × (i < n) × (test i ≡ true) × (count_below test i ≡ k)
unfolding count_below
counted-place test zero k below = absurd (omega (arith, below))
counted-place test (suc n) k below = elim (cases_lt k (count_below test n)) [
  | inl soon ↦ let found = counted-place test n k soon in (found.0, omega (arith, found.1), found.2, found.3)
  | inr late ↦ (n, omega arith, is-one (test n) (omega (arith, below, late)), omega (arith, below, late, one_if-most (test n)))
]

stopped-kept : (plan : Plan) (samples every : ℕ) (from : Beginning) (came : RaggedStand) → 0 < slots_of plan → BeginsKept plan from → KeepsRanges plan from → Reaches plan samples every from came
    → All (IsWithin plan) came.pending
stopped-kept plan samples every from came some keep kept r = λ k d below.
    let ps = positions_of came in
    let n = length ps in
    let c = floor_of ps in
    let long : n ≡ slots_of plan = length-map came.places position_of ∙ r.fits.places in
    let test : ℕ → Bool = is_pending (λ t. done (position_in ps t)) c samples every n in
    let place = counted-place test ((deepest_of ps - c) * samples * n) k (subst (λ m. k < m) r.fits.pending below) in
    let i = place.0 in
    let f = cell_epoch c samples n i in
    let b = i / n % samples in
    let t = i % n in
    let own = kept-means (λ t. done (position_in ps t)) c samples every n i place.2 in
    let cell = cell-within samples n i r.fits.some_samples (subst (λ m. 0 < m) (sym long) some) in
    let slot : t < slots_of plan = subst (λ m. t < m) long cell.1 in
    let at : pending_record samples every ps came.pending b f t ≡ record_at came.pending k =
    ap (λ j. record_at came.pending (pending_before samples every ps j)) (cell-encode c samples n i) ∙ ap (record_at came.pending) place.3 in
    let is : record_at came.pending k ≡ uneven_record plan (states_of plan from) (kept_of from) samples every b f t =
    sym at ∙ r.kept b f t cell.0 slot (omega arith) own.behind own.printed in
    subst (IsWithin plan) (sym (get_or_default came.pending k d _ below ∙ is))
    (record-kept plan (states_of plan from) (kept_of from) samples every b f t some (state-labels plan from b (omega (arith, cell.0, r.fits.few_samples)) keep) kept slot)

pub stopped-lawful : (planned : Planned) (from : Beginning) (until takes : ℕ) (came : RaggedStand) → IsLawfulPlan planned.plan → AreLawfulOrders planned.orders → IsBeginning planned from
    → KeepsRanges planned.plan from → until ≤ 1000000000 → ComesTo planned from until takes came → StopsLawfully planned from until came
unfolding stopped_text
stopped-lawful planned from until takes came lawful orders begins kept within comes =
    let ends : List Position = positions_of came in
    let keep = begun-kept planned from lawful orders begins in
    let deep = least-most (λ t. done (position_in ends t)) (length ends) in
    record {
      report = parts-lawful planned from until (floor_of ends) (planned.orders.spins && all_rest until ends) lawful orders keep kept comes.reaches.since (omega (arith, deep, comes.within, within));
      kept = stopped-kept planned.plan planned.orders.samples planned.orders.every from came lawful.rules.some keep kept comes.reaches;
    }
