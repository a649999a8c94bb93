-- The report of banks that were driven, from what each ended with.
use Rattle.std.proofs.Common.{arith, ◌≡◌, ℕ, suc, ◌+◌, ◌-◌, ◌*◌, ◌<◌, ◌≤◌, min, cond, List, [], ◌∷◌, ◌++◌, length, drop, get_or, refl, sym, ap, ap₂, ◌∙◌, subst, append_assoc}
use Rattle.std.specs.Prelude.{All, ◌&&◌, ◌==◌}
use Rattle.std.proofs.lemmas.List.{length-map, take-append-drop}
use Rattle.std.proofs.lemmas.List.Elements.{All-cons, All-nil, All-head, All-tail, All-get_or}
use Rattle.report_text.specs.Lines.{header_line, end_line}
use Rattle.run_checkpoint.specs.Encoding.{flattened}
use Rattle.run_plan.specs.declared.run_file.Orders.{Orders}
use Rattle.scalar_rule.specs.Plan.{Plan, slots_of, IsLawfulPlan}
use Rattle.scalar_rule.specs.Records.{in_order}
use Rattle.scalar_rule.specs.Positions.{floor_of, uneven_records}
use Rattle.scalar_rule.specs.Ragged.{all_ready}
use Rattle.scalar_rule.specs.declared.sample.Record.{Record}
use Rattle.scalar_rule.specs.declared.sample.PlainSlot.{PlainSlot}
use Rattle.plane_sweep.specs.Packed.{part, FitsDuo}
use Rattle.plane_sweep.specs.Uneven.{uneven_part, positions_of}
use Rattle.plane_sweep.specs.declared.uneven.RaggedStand.{RaggedStand}
use Rattle.plane_sweep.proofs.LevelStands.{level-floor}
use Rattle.exchange_board.specs.declared.origin.Origin.{Origin}
use Rattle.exchange_board.specs.Answers.{stages_of}
use Rattle.exchange_board.specs.Content.{plan_of, slots_in, rows_before}
use Rattle.exchange_board.specs.Machine.{AllEnded}
use Rattle.glass_engine.specs.BankRuns.{bank_of, for_samples, runs_of, samples_in, run_measured, run_slots, floor_before, floor_after, report_by, run_report, Course, IsAbreast, HaveSamples, AreAbreast}
use Rattle.glass_engine.specs.KeptRun.{Shared, IsBankRun, AreBankRuns, AreRuns}
use Rattle.glass_engine.specs.Laws.{IsSerial}
use Rattle.glass_engine.specs.RecordPieces.{HasRowsFrom, AreRowsFrom, HasSpins}
use Rattle.glass_engine.specs.Report.{rows_in_order, all_spins, uneven_measured}
use Rattle.glass_engine.specs.Runs.{RunView, DoneView, starts, IsEnd}
use Rattle.glass_engine.proofs.Reporting.{stop-floor, floor-ended}
use Rattle.glass_engine.proofs.WholeRuns.{whole-slots, whole-floor, level-serial}

-- ---- the rows and the spins of a bank

module _ (course : Course) (d : DoneView) (a : IsAbreast course d) where
  abbrev o : Origin
  o = d.ended.origin

  bank-rows : (slots : ℕ) → slots ≡ course.slots → HasRowsFrom slots course.every course.from course.to 0 d
  unfolding part
  bank-rows slots same =
      let run = d.run in
      let n = run.orders.samples in
      let e = a.ended in
      let count = rows_before o (floor_after d) * o.window.samples * slots_in o in
      let rows : Plan → RaggedStand → ℕ → ℕ → List Record = λ p base k v. uneven_records p (λ b. uneven_part p.size b base) base.pending k v (floor_after d) in
      let none : 0 * (n * slots) ≡ 0 = grind arith in
      record {
        slots_are = a.slots ∙ sym same;
        more = drop count d.ended.records;
        records = ap (λ k. drop k d.ended.records) none ∙ sym (take-append-drop count d.ended.records)
            ∙ ap (λ xs. xs ++ drop count d.ended.records) (e.stop.records
            ∙ ap₂ (λ p base. rows p base o.window.samples o.window.every) e.origin.plan_is e.origin.base_is
            ∙ ap₂ (rows run.plan run.base) e.origin.samples_is (e.origin.every_is ∙ a.every)
            ∙ ap₂ (in_order (uneven_measured run.plan (starts run) run.base.pending n course.every) n course.every) a.from a.to
            ∙ ap (λ v. in_order (uneven_measured run.plan (starts run) run.base.pending n v) n course.every course.from course.to) (sym a.every));
      }

  bank-spins : (plan : Plan) → plan.size ≡ course.size → slots_of plan ≡ course.slots → course.to ≡ course.until → HasSpins plan course.to d
  unfolding part
  bank-spins plan size slots full =
      let run = d.run in
      let e = a.ended in
      let F : ℕ → Type 0 = λ l. All (FitsDuo l) d.ended.stand.slots in
      let own : (plan_of o).size ≡ plan.size = ap (λ (p : Plan). p.size) e.origin.plan_is ∙ a.size ∙ sym size in
      let until : o.window.until ≡ course.to = e.origin.until_is ∙ a.until ∙ sym full in
      let ended = floor-ended o d.ended e.lawful e.stop (a.to ∙ sym until) in
      let ready : ℕ → Plan → RaggedStand → ℕ → List PlainSlot = λ m p base k. (all_ready p (uneven_part p.size m base) k).slots in
      record {
        count = e.stop.fits.slots ∙ ap slots_of e.origin.plan_is ∙ a.slots ∙ sym slots;
        fits = subst F own e.stop.fits.each_slot;
        slots = λ m small. ap₂ (λ p base. ready m p base course.to) (sym e.origin.plan_is) (sym e.origin.base_is) ∙ ap (ready m (plan_of o) o.base) (sym until)
            ∙ sym (whole-slots o d.ended m e.stop ended small) ∙ ap (λ l. (uneven_part l m d.ended.stand).slots) own;
      }

-- ---- of all banks

-- how many samples they print, where the last bank is k
pub samples-last : (n : ℕ) (ds : List DoneView) (k : ℕ) (x : DoneView) → HaveSamples n (runs_of ds) → length ds ≡ k + 1 → x ≡ get_or ds k x → 1 ≤ x.run.orders.samples
    → n ≡ 64 * k + x.run.orders.samples
unfolding HaveSamples
samples-last n [] k x all long is some = absurd (omega arith)
samples-last n (d ∷ []) k x all long is some =
    let first : k ≡ 0 = omega arith in
    let own : x.run.orders.samples ≡ min n 64 = ap (λ (y : DoneView). y.run.orders.samples) (is ∙ ap (λ j. get_or (d ∷ []) j x) first) ∙ all.0 in
    omega (arith, all.1)
samples-last n (d ∷ c ∷ ds) k x all long is some =
    let next : k ≡ suc (k - 1) = omega arith in
    let rest = samples-last (n - 64) (c ∷ ds) (k - 1) x all.1 (omega arith) (is ∙ ap (λ j. get_or (d ∷ c ∷ ds) j x) next) some in
    omega arith

report-first : (ds : List DoneView) (d : DoneView) → 0 < length ds → d ≡ get_or ds 0 d → run_report ds ≡ report_by d ds
unfolding run_report
report-first [] d some is = absurd (omega arith)
report-first (x ∷ ds) d some is = ap (λ y. report_by y (x ∷ ds)) (sym is)

module _ (ds : List DoneView) (a : AreAbreast ds) (d : DoneView) (d_is : d ≡ get_or ds 0 d) where
  known : IsAbreast a.course d
  known =
      let P : DoneView → Type 0 = IsAbreast a.course in
      subst P (sym d_is) (All-get_or P ds 0 d (omega (arith, a.some)) a.each)

  pub ended-until : d.ended.origin.window.until ≡ d.run.until
  ended-until = known.ended.origin.until_is

  module _ (plan : Plan) (plan_is : plan ≡ d.run.plan) (orders : Orders) (orders_are : orders ≡ for_samples (samples_in (runs_of ds)) d.run.orders)
      (from to until : ℕ) (from_is : from ≡ floor_before d) (to_is : to ≡ floor_after d) (until_is : until ≡ d.run.until) where
    count : orders.samples ≡ samples_in (runs_of ds)
    count = ap (λ (r : Orders). r.samples) orders_are

    samples : HaveSamples orders.samples (runs_of ds)
    samples = subst (λ n. HaveSamples n (runs_of ds)) (sym count) a.samples

    pub rows-start : (slots : ℕ) → slots ≡ slots_of plan → IsLawfulPlan plan → AreRowsFrom ds orders slots from to 0
    rows-start slots is lawful =
        let e = known.ended in
        let every : orders.every ≡ a.course.every = ap (λ (r : Orders). r.every) orders_are ∙ known.every in
        let own : slots ≡ a.course.slots = is ∙ ap slots_of plan_is ∙ known.slots in
        let since : floor_before d ≤ floor_after d = subst (λ (r : RaggedStand). floor_of (positions_of r) ≤ floor_after d) e.origin.base_is e.stop.from in
        let upto = stop-floor d.ended.origin d.ended e.lawful e.stop in
        let P : ℕ → ℕ → ℕ → DoneView → Type 0 = λ v c z x. HasRowsFrom slots v c z 0 x in
        let each : (v c z : ℕ) → v ≡ a.course.every → c ≡ a.course.from → z ≡ a.course.to → All (P v c z) ds =
        λ v c z vs cs zs k x h. subst (λ y. P y c z (get_or ds k x)) (sym vs) (subst (λ y. P a.course.every y z (get_or ds k x)) (sym cs) (subst (λ y. P a.course.every a.course.from y (get_or ds k x)) (sym zs)
        (bank-rows a.course (get_or ds k x) (a.each k x h) slots own))) in
        record {
          some_every = let z = e.stop.fits.some_every in let y = e.origin.every_is in let x = known.every in omega arith;
          some_slots = omega (arith, lawful.rules.some);
          few_slots = omega (arith, lawful.rules.few);
          from = omega arith;
          short = let z = e.lawful.until in omega arith;
          counted = omega arith;
          each = each orders.every from to every (from_is ∙ known.from) (to_is ∙ known.to);
          samples = samples;
        }

    pub spins-start : to ≡ until → All (HasSpins plan to) ds × HaveSamples orders.samples (runs_of ds)
    spins-start full =
        let size : plan.size ≡ a.course.size = ap (λ (p : Plan). p.size) plan_is ∙ known.size in
        let slots : slots_of plan ≡ a.course.slots = ap slots_of plan_is ∙ known.slots in
        let there : to ≡ a.course.to = to_is ∙ known.to in
        let last : a.course.to ≡ a.course.until = sym there ∙ full ∙ until_is ∙ known.until in (
          λ k x h. subst (λ e. HasSpins plan e (get_or ds k x)) (sym there) (bank-spins a.course (get_or ds k x) (a.each k x h) plan size slots last),
          samples,
        )

    pub report-is : run_report ds
        ≡ header_line plan orders.samples from to ++ rows_in_order (run_measured ds) orders.samples orders.every from to
        ++ (end_line to ++ cond (orders.spins && (to == until)) (all_spins plan orders.samples (run_slots to ds)) [])
    report-is =
        let parts : Plan → Orders → ℕ → ℕ → ℕ → List ℕ = λ p r c z u.
        header_line p r.samples c z ++ rows_in_order (run_measured ds) r.samples r.every c z ++ end_line z ++ cond (r.spins && (z == u)) (all_spins p r.samples (run_slots z ds)) [] in
        report-first ds d (omega (arith, a.some)) d_is
        ∙ ap₂ (λ p r. parts p r (floor_before d) (floor_after d) d.run.until) (sym plan_is) (sym orders_are)
        ∙ ap₂ (λ c z. parts plan orders c z d.run.until) (sym from_is) (sym to_is)
        ∙ ap (parts plan orders from to) (sym until_is)
        ∙ append_assoc (header_line plan orders.samples from to ++ rows_in_order (run_measured ds) orders.samples orders.every from to) (end_line to)
        (cond (orders.spins && (to == until)) (all_spins plan orders.samples (run_slots to ds)) [])

-- ---- one bank

pub one-abreast : (d : DoneView) → IsEnd d.run d.ended → AreAbreast (d ∷ [])
unfolding HaveSamples samples_in
one-abreast d e =
    let few : d.run.orders.samples ≤ 64 = let z = e.stop.fits.few_samples in let y = e.origin.samples_is in omega arith in
    let course : Course = record { size = d.run.plan.size; slots = slots_of d.run.plan; every = d.run.orders.every; from = floor_before d; to = floor_after d; until = d.run.until } in
    record {
      some = omega arith;
      few = omega arith;
      course = course;
      each = All-cons (IsAbreast course) d [] (record { ended = e; size = refl; slots = refl; every = refl; from = refl; to = refl; until = refl }) (All-nil (IsAbreast course));
      samples = (omega arith, omega arith);
    }

-- ---- the banks of a run that isn't to stop

-- what is known of each bank
pub record IsBankEnd (shared : Shared) (orders : Orders) (d : DoneView) : Type 0 where
  pub run : IsBankRun shared orders d.run
  pub ended : IsEnd d.run d.ended

runs-at : (P : RunView → Type 0) (ds : List DoneView) → All P (runs_of ds) → All (λ (d : DoneView). P d.run) ds
runs-at P [] all = All-nil (λ (d : DoneView). P d.run)
runs-at P (d ∷ ds) all = All-cons (λ (d : DoneView). P d.run) d ds (All-head P d.run (runs_of ds) all) (runs-at P ds (All-tail P d.run (runs_of ds) all))

pub bank-ends : (orders : Orders) (ds : List DoneView) (runs : AreBankRuns orders (runs_of ds)) → All (λ (d : DoneView). IsEnd d.run d.ended) ds → All (IsBankEnd runs.shared orders) ds
bank-ends orders ds runs ended = λ k d h. record { run = runs-at (IsBankRun runs.shared orders) ds runs.each k d h; ended = ended k d h }

pub serial-end : (shared : Shared) (orders : Orders) (d : DoneView) → IsBankEnd shared orders d → IsSerial d.run (bank_of d.run).start d.ended
serial-end shared orders d e = level-serial d.run (flattened d.run.base) d.ended e.run.takes e.run.level e.run.fits e.ended

bank-abreast : (shared : Shared) (orders : Orders) (d : DoneView) → IsBankEnd shared orders d
    → IsAbreast (record { size = shared.size; slots = shared.slots; every = orders.every; from = shared.from; to = shared.until; until = shared.until }) d
bank-abreast shared orders d e =
    let o = d.ended.origin in
    let some : 0 < slots_of d.run.plan = subst (λ (p : Plan). 0 < slots_of p) e.ended.origin.plan_is e.ended.lawful.plan.rules.some in
    let long : 0 < length (flattened d.run.base).slots = omega (arith, e.run.fits.slots, some) in
    let U : ℕ → Type 0 = λ k. AllEnded k (stages_of d.ended.stand) in
    let all = subst U (sym e.ended.origin.until_is) (serial-end shared orders d e).places in
    record {
      ended = e.ended;
      size = e.run.size;
      slots = e.run.slots;
      every = e.run.every;
      from = ap (λ (r : RaggedStand). floor_of (positions_of r)) e.run.level ∙ (level-floor (flattened d.run.base) long).0 ∙ e.run.from;
      to = whole-floor o d.ended e.ended.stop e.ended.lawful.plan.rules.some all ∙ e.ended.origin.until_is ∙ e.run.until;
      until = e.run.until;
    }

samples-are : (n : ℕ) (runs : List RunView) → HaveSamples n runs → samples_in runs ≡ n
unfolding HaveSamples samples_in
samples-are n [] all = sym all
samples-are n (run ∷ runs) all =
    let rest = samples-are (n - 64) runs all.1 in
    let own = all.0 in
    omega arith

pub banks-abreast : (orders : Orders) (ds : List DoneView) → AreBankRuns orders (runs_of ds) → All (λ (d : DoneView). IsEnd d.run d.ended) ds → AreAbreast ds
banks-abreast orders ds runs ended =
    let long = length-map ds (λ (x : DoneView). x.run) in
    let s = runs.shared in
    record {
      some = let z = runs.orders_are.some_banks in omega arith;
      few = let z = runs.orders_are.few_banks in omega arith;
      course = record { size = s.size; slots = s.slots; every = orders.every; from = s.from; to = s.until; until = s.until };
      each = λ k d h. bank-abreast s orders (get_or ds k d) (bank-ends orders ds runs ended k d h);
      samples = subst (λ n. HaveSamples n (runs_of ds)) (sym (samples-are orders.samples (runs_of ds) runs.samples)) runs.samples;
    }

-- ---- of one bank or of several

pub runs-abreast : (ds : List DoneView) → AreRuns (runs_of ds) → All (λ (d : DoneView). IsEnd d.run d.ended) ds → AreAbreast ds
runs-abreast [] runs ended = absurd runs
runs-abreast (d ∷ []) runs ended = one-abreast d (All-head (λ (x : DoneView). IsEnd x.run x.ended) d [] ended)
runs-abreast (d ∷ next ∷ ds) runs ended = banks-abreast runs.0 (d ∷ next ∷ ds) runs.1 ended
