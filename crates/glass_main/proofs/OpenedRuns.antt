-- The report and the checkpoint of a run that is opened as it is to be, and the epoch at which its starting state begins.
use Rattle.std.proofs.Common.{◌≡◌, ℕ, ◌<◌, ◌≤◌, false, List, [], ◌∷◌, length, get_or, Option, Some, None, refl, ap, ap₂, sym, ◌∙◌, subst, arith}
use Rattle.std.specs.Prelude.{All, ◌≢◌}
use Rattle.std.proofs.lemmas.List.Elements.{All-nil, All-cons, All-head}
use Rattle.std.proofs.lemmas.List.{length-map, length-replicate, get_or-replicate, ext_get_or}
use Rattle.spin_model.specs.Limits.{every_take}
use Rattle.run_checkpoint.specs.Encoding.{encoding, AreBankStates}
use Rattle.run_plan.specs.declared.run_file.Orders.{Orders}
use Rattle.scalar_rule.specs.Plan.{Plan, slots_of}
use Rattle.scalar_rule.specs.Opening.{opening}
use Rattle.scalar_rule.specs.Positions.{position_in, done, floor_of, deepest_of}
use Rattle.scalar_rule.specs.Ragged.{Position, all_ready}
use Rattle.scalar_rule.specs.Serial.{serial}
use Rattle.scalar_rule.specs.declared.sample.Sample.{Sample}
use Rattle.scalar_rule.specs.declared.sample.Start.{Start}
use Rattle.scalar_rule.proofs.Extremes.{least-at, greatest-at}
use Rattle.plane_sweep.specs.Packed.{part, StandFits, StandsFor}
use Rattle.plane_sweep.specs.Uneven.{place_at, position_of, positions_of, uneven_part, level_stand, RaggedStandFits}
use Rattle.plane_sweep.specs.declared.stand.Stand.{Stand}
use Rattle.plane_sweep.specs.declared.uneven.RaggedStand.{RaggedStand}
use Rattle.plane_sweep.proofs.LevelStands.{level-floor, position-at}
use Rattle.exchange_board.specs.Answers.{start_place}
use Rattle.exchange_board.specs.Views.{RaggedEndedView}
use Rattle.exchange_board.proofs.Cells.{floor-deep}
use Rattle.glass_engine.specs.Laws.{stand_at, UnstoppedRunIsWhole, LevelReportIsSerial}
use Rattle.glass_engine.specs.BankRuns.{plans_of, runs_of, run_report}
use Rattle.glass_engine.specs.Report.{report, uneven_report}
use Rattle.glass_engine.specs.Runs.{RunView, DoneView, starts, IsEnd}
use Rattle.glass_engine.proofs.Reporting.{one-report}
use Rattle.glass_engine.specs.Saves.{checkpoint, end_checkpoint, written, WholeCheckpointIsTheRules, LevelCheckpointIsSerial}
use Rattle.glass_engine.specs.declared.run.SaveKind.TheVariants as saves
use Rattle.glass_engine.proofs.SavedRuns.{fits-at}
use Rattle.glass_engine.proofs.WholeRuns.{rest-at, unstopped-whole}
use Rattle.glass_main.specs.Beginnings.{Beginning, Level, Uneven, begins_at, all_at, run_text, state_at, run_checkpoint, IsBaseOf}
use Rattle.glass_main.specs.Opened.{saves_as, own_run, IsOpened, AreReady, AreRunsOf, text_at, bytes_at, Comes, IsRunOf}
use Rattle.glass_main.specs.Request.{RunWork}
use Rattle.glass_main.specs.Stops.{RunGives}
use Rattle.glass_main.proofs.StoppedRuns.{base-floor, base-text, base-state-at, stopped-report, comes-packed, comes-from}
use Rattle.glass_main.specs.declared.planned.Planned.{Planned}
use Rattle.glass_main.specs.declared.finishing.Opened.{Opened}

-- the positions of a run to its end
ended-at : (run : RunView) (d : RaggedEndedView) → UnstoppedRunIsWhole → run.takes ≡ every_take → IsEnd run d → positions_of d.stand ≡ all_at run.plan run.until
ended-at run d whole takes e =
    let w = whole run d takes e in
    let n = slots_of run.plan in
    let there : Position = record { epoch = run.until; waits = false } in
    let places : length d.stand.places ≡ n = e.stop.fits.places ∙ ap slots_of e.origin.plan_is in
    ext_get_or (record { epoch = 0; waits = false }) (positions_of d.stand) (all_at run.plan run.until)
    (length-map d.stand.places position_of ∙ (places ∙ sym (length-replicate n there)))
    (λ t h.
    let known : t < length d.stand.places = subst (λ k. t < k) (length-map d.stand.places position_of) h in
    rest-at d.stand.places t run.until known (w.places t (subst (λ k. t < k) (sym (length-map d.stand.places start_place)) known))
    ∙ sym (get_or-replicate n t there _ (subst (λ k. t < k) places known)))

-- the report of a run that isn't to stop is that of the states that it starts from
report-of : (whole : UnstoppedRunIsWhole) (law : LevelReportIsSerial) (planned : Planned) (from : Beginning) (e : ℕ) (run : RunView) (d : RaggedEndedView)
    → IsRunOf None planned from e run → IsEnd run d → run_report (record { run = run; ended = d } ∷ []) ≡ run_text planned from e
report-of whole law planned (Level start) e run d o end =
    let b = o.base in
    let F : Plan → Type 0 = λ p. StandFits p b.stand in
    let S : Plan → Type 0 = λ p. StandsFor p start b.stand in
    law run b.stand start d o.takes b.is (subst F (sym o.plan) b.fits) (subst S (sym o.plan) b.stands) end
    ∙ ap (λ p. report p start run.orders run.until) o.plan
    ∙ ap (λ r. report planned.plan start r run.until) o.orders
    ∙ ap (λ n. report planned.plan start planned.orders n) o.until
report-of whole law planned (Uneven stand) e run d o end =
    let text : Plan → RaggedStand → Orders → ℕ → List ℕ = λ p b r n. uneven_report p (λ i. uneven_part p.size i b) b.pending r.samples r.every r.spins n (all_at p n) in
    one-report (record { run = run; ended = d }) end
    ∙ ap (λ ps. uneven_report run.plan (starts run) run.base.pending run.orders.samples run.orders.every run.orders.spins run.until ps) (ended-at run d whole o.takes end)
    ∙ ap (λ p. text p run.base run.orders run.until) o.plan
    ∙ ap (λ b. text planned.plan b run.orders run.until) o.base
    ∙ ap (λ r. text planned.plan stand r run.until) o.orders
    ∙ ap (λ n. text planned.plan stand planned.orders n) o.until

-- and so is its checkpoint
checkpoint-of : (whole : WholeCheckpointIsTheRules) (law : LevelCheckpointIsSerial) (planned : Planned) (from : Beginning) (e : ℕ) (run : RunView) (d : RaggedEndedView)
    → run.saves ≡ saves.Level → IsRunOf None planned from e run → IsEnd run d → checkpoint run d.stand ≡ run_checkpoint planned from e
checkpoint-of whole law planned (Level start) e run d level o end =
    let b = o.base in
    let F : Plan → Type 0 = λ p. StandFits p b.stand in
    let S : Plan → Type 0 = λ p. StandsFor p start b.stand in
    law run b.stand start d level o.takes b.is (subst F (sym o.plan) b.fits) (subst S (sym o.plan) b.stands) end
    ∙ ap (λ p. encoding p (λ b. serial p (start b) run.until)) o.plan
    ∙ ap (λ n. encoding planned.plan (λ b. serial planned.plan (start b) n)) o.until
checkpoint-of whole law planned (Uneven stand) e run d level o end =
    let text : Plan → RaggedStand → ℕ → List ℕ = λ p b n. encoding p (λ i. all_ready p (uneven_part p.size i b) n) in
    whole run d level o.takes end
    ∙ ap (λ p. text p run.base run.until) o.plan
    ∙ ap (λ b. text planned.plan b run.until) o.base
    ∙ ap (λ n. text planned.plan stand n) o.until

-- ---- any run

some-slots : (run : RunView) (d : RaggedEndedView) (planned : Planned) → run.plan ≡ planned.plan → IsEnd run d → 0 < slots_of planned.plan
some-slots run d planned plan e = subst (λ (p : Plan). 0 < slots_of p) (e.origin.plan_is ∙ plan) e.lawful.plan.rules.some

few-samples : (run : RunView) (d : RaggedEndedView) (planned : Planned) → run.orders ≡ planned.orders → IsEnd run d → planned.orders.samples ≤ 64
few-samples run d planned orders e =
    let same : d.origin.window.samples ≡ planned.orders.samples = e.origin.samples_is ∙ ap (λ (o : Orders). o.samples) orders in
    let z = e.stop.fits.few_samples in omega arith

-- it begins before its last epoch
begins-upto : (planned : Planned) (from : Beginning) (e : ℕ) (run : RunView) (d : RaggedEndedView) → run.plan ≡ planned.plan → run.until ≡ e → IsBaseOf planned.plan from run.base → IsEnd run d
    → begins_at from ≤ e
begins-upto planned from e run d plan until base end =
    let begins : begins_at from ≡ floor_of (positions_of d.origin.base) =
    base-floor planned.plan from run.base (some-slots run d planned plan end) base ∙ sym (ap (λ (r : RaggedStand). floor_of (positions_of r)) end.origin.base_is) in
    let last : d.origin.window.until ≡ e = end.origin.until_is ∙ until in
    let upto = (floor-deep d.origin end.lawful).1 in
    omega arith

-- its report
text-of : (whole : UnstoppedRunIsWhole) (law : LevelReportIsSerial) (stop_after : Option ℕ) (planned : Planned) (from : Beginning) (e : ℕ) (run : RunView) (d : RaggedEndedView)
    → IsRunOf stop_after planned from e run → IsEnd run d → run_report (record { run = run; ended = d } ∷ []) ≡ text_at stop_after planned from e d.stand
text-of whole law None planned from e run d o end = report-of whole law planned from e run d o end
text-of whole law (Some takes) planned from e run d o end =
    let some = some-slots run d planned o.plan end in
    one-report (record { run = run; ended = d }) end
    ∙ stopped-report planned e run (positions_of d.stand) o.plan o.orders o.until
    ∙ base-text planned from e (positions_of d.stand) run.base some (few-samples run d planned o.orders end) (begins-upto planned from e run d o.plan o.until o.base end) o.base

-- its checkpoint
bytes-of : (whole : WholeCheckpointIsTheRules) (law : LevelCheckpointIsSerial) (stop_after : Option ℕ) (name : List ℕ) (planned : Planned) (from : Beginning) (e : ℕ) (run : RunView) (d : RaggedEndedView)
    → run.saves ≡ saves_as stop_after (Some name) → IsRunOf stop_after planned from e run → IsEnd run d → checkpoint run d.stand ≡ bytes_at stop_after planned from e d.stand
bytes-of whole law None name planned from e run d kind o end = checkpoint-of whole law planned from e run d kind o end
bytes-of whole law (Some takes) name planned from e run d kind o end =
    ap (λ k. written k run.plan run.orders.samples run.orders.every d.stand) kind
    ∙ ap₂ (λ p (r : Orders). written saves.Ragged p r.samples r.every d.stand) o.plan o.orders

bytes-named : (whole : WholeCheckpointIsTheRules) (law : LevelCheckpointIsSerial) (stop_after : Option ℕ) (name : Option (List ℕ)) (planned : Planned) (from : Beginning) (e : ℕ) (run : RunView) (d : RaggedEndedView)
    → run.saves ≡ saves_as stop_after name → IsRunOf stop_after planned from e run → IsEnd run d → name ≢ None → checkpoint run d.stand ≡ bytes_at stop_after planned from e d.stand
bytes-named whole law stop_after None planned from e run d kind o end named = absurd (named refl)
bytes-named whole law stop_after (Some name) planned from e run d kind o end named = bytes-of whole law stop_after name planned from e run d kind o end

-- the states of one that isn't to stop fit
fits-end : (planned : Planned) (from : Beginning) (e : ℕ) (run : RunView) (d : RaggedEndedView) → IsRunOf None planned from e run → IsEnd run d
    → AreBankStates planned.plan (λ b. state_at planned.plan from e b)
fits-end planned from e run d o end =
    let plan = planned.plan in
    let whole = unstopped-whole run d o.takes end in
    let A : Plan → ℕ → Type 0 = λ p n. (b : ℕ) → b < 64 → part p.size b (stand_at n d.stand) ≡ all_ready p (uneven_part p.size b run.base) n in
    let packed : A plan e = subst (A plan) o.until (subst (λ p. A p run.until) o.plan whole.stand) in
    let upto = begins-upto planned from e run d o.plan o.until o.base end in
    let F : Plan → Type 0 = λ p. RaggedStandFits p d.origin.window.samples d.origin.window.every d.stand in
    let fits = subst F (end.origin.plan_is ∙ o.plan) end.stop.fits in
    let last : d.origin.window.until ≡ e = end.origin.until_is ∙ o.until in
    let short : e ≤ 1000000000 = let z = end.lawful.until in omega arith in
    record {
      stand = stand_at e d.stand;
      fits = fits-at plan d.origin.window.samples d.origin.window.every e d.stand fits (omega arith);
      stands = λ b small. packed b small ∙ base-state-at plan from run.base b e small upto o.base;
    }

-- where it comes to
run-comes : (stop_after : Option ℕ) (planned : Planned) (from : Beginning) (e : ℕ) (run : RunView) (d : RaggedEndedView) → IsRunOf stop_after planned from e run → IsEnd run d
    → Comes stop_after planned from e d.stand
run-comes None planned from e run d o end = fits-end planned from e run d o end
run-comes (Some takes) planned from e run d o end =
    comes-from planned from e takes run.base d.stand (some-slots run d planned o.plan end) (few-samples run d planned o.orders end) o.base
    (comes-packed planned e takes run d o.plan o.orders o.until o.takes end)

-- what is written of it
run-gives : (stop_after : Option ℕ) (planned : Planned) (from : Beginning) (e : ℕ) (came : RaggedStand) (P : List ℕ → List ℕ → Type 0) → Comes stop_after planned from e came
    → P (text_at stop_after planned from e came) (bytes_at stop_after planned from e came) → RunGives stop_after planned from e P
run-gives None planned from e came P comes p = (comes, p)
run-gives (Some takes) planned from e came P comes p = (came, comes, p)

-- ---- as it is opened

pub saves-named : (stop_after : Option ℕ) (name : Option (List ℕ)) → name ≢ None → saves_as stop_after name ≢ saves.Never
saves-named stop_after None named = absurd (named refl)
saves-named None (Some name) named = λ is. absurd cc
saves-named (Some takes) (Some name) named = λ is. absurd cc

pub own-ready : (planned : Planned) (base : RaggedStand) (e : ℕ) (stop_after : Option ℕ) (name : Option (List ℕ)) (opened : Opened) → IsOpened planned base e stop_after name opened → AreReady name opened
own-ready planned base e stop_after name opened o =
    let run = own_run planned base e stop_after name in
    let S : RunView → Type 0 = λ r. r.saves ≢ saves.Never in
    record {
      plans = o.shares ∙ sym (ap plans_of o.runs);
      saved = λ named. subst (All S) (sym o.runs) (All-cons S run [] (saves-named stop_after name named) (All-nil S));
    }

-- the end of the run of one bank
pub one-done : (dones : List DoneView) (run : RunView) → runs_of dones ≡ run ∷ [] → (d : RaggedEndedView) × (dones ≡ record { run = run; ended = d } ∷ [])
one-done [] run one = absurd (omega (arith, ap length one))
one-done (x ∷ []) run one =
    let make : RunView → List DoneView = λ r. record { run = r; ended = x.ended } ∷ [] in
    (x.ended, ap make (ap (λ rs. get_or rs 0 run) one))
one-done (x ∷ y ∷ ds) run one = absurd (omega (arith, ap length one))

-- it does the work that is asked for, from each start that its state is packed of
pub own-work : UnstoppedRunIsWhole → LevelReportIsSerial → WholeCheckpointIsTheRules → LevelCheckpointIsSerial
    → (planned : Planned) (base : RaggedStand) (e : ℕ) (stop_after : Option ℕ) (name : Option (List ℕ)) (opened : Opened) (from : Beginning) → IsOpened planned base e stop_after name opened
    → IsBaseOf planned.plan from base → AreRunsOf name (RunWork planned from e stop_after) opened.run
own-work whole report wholes levels planned base e stop_after name opened from o begun = λ dones are ends.
    let run = own_run planned base e stop_after name in
    let one = one-done dones run (are ∙ o.runs) in
    let d = one.0 in
    let E : DoneView → Type 0 = λ x. IsEnd x.run x.ended in
    let end : IsEnd run d = All-head E (record { run = run; ended = d }) [] (subst (All E) one.1 ends) in
    let is : IsRunOf stop_after planned from e run = record { plan = refl; orders = refl; until = refl; takes = refl; base = begun } in
    let P : List DoneView → List ℕ → List ℕ → Type 0 = λ ds text bytes. (run_report ds ≡ text) × (name ≢ None → end_checkpoint ds ≡ bytes) in
    subst (λ ds. RunGives stop_after planned from e (P ds)) (sym one.1)
    (run-gives stop_after planned from e d.stand (P (record { run = run; ended = d } ∷ [])) (run-comes stop_after planned from e run d is end)
    (text-of whole report stop_after planned from e run d is end, bytes-named wholes levels stop_after name planned from e run d refl is end))

-- ---- how far a starting state is

-- the opening state is at epoch 0
pub opening-deep : (plan : Plan) (start : Start) (stand : Stand) (base : RaggedStand) → 0 < slots_of plan → StandFits plan stand → StandsFor plan (opening plan start 0) stand → base ≡ level_stand stand
    → deepest_of (positions_of base) ≡ 0
unfolding part
opening-deep plan start stand base some fits stands is =
    let first : stand.epoch ≡ 0 = ap (λ (s : Sample). s.epoch) (stands 0 (omega arith)) in
    let long : 0 < length stand.slots = omega (arith, fits.slots, some) in
    ap (λ (r : RaggedStand). deepest_of (positions_of r)) is ∙ ((level-floor stand long).1 ∙ first)

-- no slot is at an epoch past the greatest that is completed
pub places-short : (base : RaggedStand) (until : ℕ) → deepest_of (positions_of base) ≤ until → (t : ℕ) → t < length base.places → (place_at base.places t).epoch ≤ until
places-short base until reach t h =
    let ps = positions_of base in
    let at = ap (λ (p : Position). p.epoch) (position-at base.places t h) in
    let deep = greatest-at (λ k. done (position_in ps k)) (length ps) t (subst (λ n. t < n) (sym (length-map base.places position_of)) h) in
    omega arith

-- the least of the completed epochs is no greater than the greatest
pub floor-upto : (base : RaggedStand) (until : ℕ) → 0 < length base.places → deepest_of (positions_of base) ≤ until → floor_of (positions_of base) ≤ until
floor-upto base until some reach =
    let ps = positions_of base in
    let long : 0 < length ps = subst (λ n. 0 < n) (sym (length-map base.places position_of)) some in
    let low = least-at (λ k. done (position_in ps k)) (length ps) 0 long in
    let high = greatest-at (λ k. done (position_in ps k)) (length ps) 0 long in
    omega arith
