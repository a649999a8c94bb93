-- The report by its four parts.
use Rattle.std.proofs.Common.{arith, ◌≡◌, inl, inr, ℕ, suc, ◌+◌, ◌*◌, ◌<◌, ◌≤◌, Bool, true, false, cond, not, List, [], ◌∷◌, ◌++◌, length, append-nil, refl, sym, ap, ap₂, ◌∙◌, subst}
use Rattle.std.specs.Prelude.{◌==◌, ◌&&◌}
use Rattle.std.proofs.lemmas.Bool.{cases_Bool, and_parts, eqb-true, eq-eqb, true_from_ne_false, true≢false, false≢true}
use Rattle.std.proofs.lemmas.List.{length-map}
use Rattle.std.proofs.lemmas.List.Folds.{list_all_at}
use Rattle.report_text.specs.Lines.{header_line, end_line}
use Rattle.scalar_rule.specs.Plan.{Plan}
use Rattle.scalar_rule.specs.Positions.{position_in, done, floor_of}
use Rattle.scalar_rule.specs.Ragged.{Position, all_ready}
use Rattle.scalar_rule.specs.declared.sample.PlainSlot.{PlainSlot}
use Rattle.scalar_rule.proofs.Extremes.{least-at, least-some}
use Rattle.plane_sweep.specs.Uneven.{place_at, position_of, positions_of}
use Rattle.exchange_board.specs.declared.origin.Origin.{Origin}
use Rattle.exchange_board.specs.Answers.{start_place, stages_of}
use Rattle.exchange_board.specs.Content.{slots_in, IsLawfulOrigin}
use Rattle.exchange_board.specs.Machine.{numbers, begun, AllEnded}
use Rattle.exchange_board.specs.Stops.{IsStop}
use Rattle.exchange_board.specs.Views.{RaggedEndedView}
use Rattle.exchange_board.proofs.Cells.{floor-deep}
use Rattle.exchange_board.proofs.Origins.{place-short, done-reach}
use Rattle.exchange_board.proofs.Starting.{begun-at, begun-done}
use Rattle.glass_engine.specs.BankRuns.{own_measured, run_measured, run_slots, floor_before, floor_after, samples_in, run_report}
use Rattle.glass_engine.specs.Report.{bank_report, uneven_report, rows_in_order, all_rest, all_spins, sample_spins}
use Rattle.glass_engine.specs.Runs.{DoneView, starts, IsEnd}
use Rattle.glass_engine.proofs.BankLaws.{of-first}
use Rattle.glass_engine.proofs.Pieces.{where-true, rows-same}
use Rattle.spin_model.proofs.Joined.{joined-same}
use Rattle.glass_engine.proofs.WholeRuns.{later, later-lawful, full-ended, rest-at}

-- ---- where a run stopped

pub stop-short : (o : Origin) (d : RaggedEndedView) (t : ℕ) → IsLawfulOrigin o → IsStop o d → t < length d.stand.places → (place_at d.stand.places t).epoch ≤ 1000000000
stop-short o d t l s h = place-short (later o d.stand) t (later-lawful o d l s) h

pub stop-floor : (o : Origin) (d : RaggedEndedView) → IsLawfulOrigin o → IsStop o d → floor_of (positions_of d.stand) ≤ o.window.until
stop-floor o d l s = (floor-deep (later o d.stand) (later-lawful o d l s)).1

-- ---- where every slot is at rest at until

not-waits : (a : Bool) → not a ≡ true → a ≡ false
not-waits true h = absurd (false≢true h)
not-waits false h = refl

abbrev rests : ℕ → Position → Bool
rests e p = not p.waits && p.epoch == e

rests-is : (e : ℕ) (p : Position) → rests e p ≡ true → (let q : Position = record { epoch = e; waits = false } in p ≡ q)
rests-is e p h =
    let z = and_parts (not p.waits) (p.epoch == e) h in
    let make : ℕ → Bool → Position = λ k w. record { epoch = k; waits = w } in
    ap₂ make (eqb-true p.epoch e z.1) (not-waits p.waits z.0)

rest-told : (e : ℕ) (ends : List Position) → all_rest e ends ≡ true → (t : ℕ) → t < length ends → (let q : Position = record { epoch = e; waits = false } in position_in ends t ≡ q)
rest-told e ends all t h =
    rests-is e (position_in ends t) (true_from_ne_false (rests e (position_in ends t)) (λ z. true≢false (sym all ∙ list_all_at (rests e) ends t _ h z)))

rest-tests : (e : ℕ) → (let q : Position = record { epoch = e; waits = false } in rests e q ≡ true)
rest-tests e = eq-eqb e e refl

all-rest : (e : ℕ) (ends : List Position) → ((t : ℕ) → t < length ends → (let q : Position = record { epoch = e; waits = false } in position_in ends t ≡ q)) → all_rest e ends ≡ true
all-rest e [] each = refl
all-rest e (p ∷ ends) each =
    let here : rests e p ≡ true = ap (rests e) (each 0 (omega arith)) ∙ rest-tests e in
    let rest : all_rest e ends ≡ true = all-rest e ends (λ t h. each (suc t) (omega arith)) in
    ap₂ (λ a b. a && b) here rest

-- the least completed epoch is until
pub floor-ended : (o : Origin) (d : RaggedEndedView) → IsLawfulOrigin o → IsStop o d → floor_of (positions_of d.stand) ≡ o.window.until → AllEnded o.window.until (stages_of d.stand)
floor-ended o d l s is =
    let x = later o d.stand in
    let lx = later-lawful o d l s in
    let ps = positions_of d.stand in
    let long : length ps ≡ slots_in o = length-map d.stand.places position_of ∙ s.fits.places in
    full-ended o d l s (λ t h.
    let b = begun-at x t in
    let p = position_in ps t in
    let number : numbers (stages_of d.stand) t ≡ 4 * p.epoch + cond p.waits 2 0 = ap₂ (λ u v. 4 * u + v) b.0 b.1 in
    let past : begun (numbers (stages_of d.stand) t) ≡ p.epoch + cond p.waits 1 0 = ap begun number ∙ begun-done p.epoch p.waits in
    let low = least-at (λ k. done (position_in ps k)) (length ps) t (omega arith) in
    let high = done-reach x t lx h in
    omega arith)

pub floor-tells : (o : Origin) (d : RaggedEndedView) → IsLawfulOrigin o → IsStop o d → (floor_of (positions_of d.stand) == o.window.until) ≡ all_rest o.window.until (positions_of d.stand)
floor-tells o d l s =
    let ps = positions_of d.stand in
    let until = o.window.until in
    let long : length ps ≡ slots_in o = length-map d.stand.places position_of ∙ s.fits.places in
    let stages : length (stages_of d.stand) ≡ slots_in o = length-map d.stand.places start_place ∙ s.fits.places in
    elim (cases_Bool (floor_of ps == until)) [
      | inl full ↦
          let ended = floor-ended o d l s (eqb-true (floor_of ps) until full) in
          full ∙ sym (all-rest until ps (λ t h. rest-at d.stand.places t until (omega (arith, s.fits.places)) (ended t (omega arith))))
      | inr short ↦ elim (cases_Bool (all_rest until ps)) [
        | inr off ↦ short ∙ sym off
        | inl on ↦
            let low = least-some (λ t. done (position_in ps t)) (length ps) (let z = l.plan.rules.some in omega arith) in
            let at : done (position_in ps low.0) ≡ until + 0 = ap done (rest-told until ps on low.0 low.1) in
            let is = low.2 in
            let same : floor_of ps ≡ until = omega arith in
            absurd (true≢false (sym (eq-eqb (floor_of ps) until same) ∙ short))
      ]
    ]

-- the spins of the same contents
pub spins-same : (plan : Plan) (samples : ℕ) (s t : ℕ → List PlainSlot) → ((b : ℕ) → b < samples → s b ≡ t b) → all_spins plan samples s ≡ all_spins plan samples t
spins-same plan samples s t same = joined-same (λ b. sample_spins plan b (s b)) (λ b. sample_spins plan b (t b)) (λ b. b) samples (λ b below. ap (sample_spins plan b) (same b below))

-- the report of one bank
pub one-report : (d : DoneView) → IsEnd d.run d.ended → run_report (d ∷ []) ≡ bank_report d.run (positions_of d.ended.stand)
unfolding run_report uneven_report samples_in
one-report d e =
    let run = d.run in
    let p = run.plan in
    let n = run.orders.samples in
    let v = run.orders.every in
    let s = run.orders.spins in
    let from = floor_before d in
    let to = floor_after d in
    let ends = positions_of d.ended.stand in
    let few : n ≤ 64 = let z = e.stop.fits.few_samples in let y = e.origin.samples_is in omega arith in
    let text : ℕ → List ℕ = λ k. header_line p k from to ++ rows_in_order (run_measured (d ∷ [])) k v from to ++ end_line to ++ cond (s && (to == run.until)) (all_spins p k (run_slots to (d ∷ []))) [] in
    let parts : List ℕ → List ℕ → List ℕ = λ rows spins. header_line p n from to ++ rows ++ end_line to ++ spins in
    let rows = rows-same (run_measured (d ∷ [])) (own_measured run) n v from to (λ b f since on h. of-first [] (λ (x : DoneView) m. own_measured x.run m f) d [] b (omega arith)) in
    let tells : (to == run.until) ≡ all_rest run.until ends = subst (λ k. (to == k) ≡ all_rest k ends) e.origin.until_is (floor-tells d.ended.origin d.ended e.lawful e.stop) in
    let ready = all_spins p n (λ b. (all_ready p (starts run b) run.until).slots) in
    let spins : cond (s && (to == run.until)) (all_spins p n (run_slots to (d ∷ []))) [] ≡ cond (s && all_rest run.until ends) ready [] =
    where-true (s && (to == run.until)) (all_spins p n (run_slots to (d ∷ []))) ready (λ on.
    spins-same p n (run_slots to (d ∷ [])) _ (λ b h. of-first [] (λ (x : DoneView) m. (all_ready x.run.plan (starts x.run m) to).slots) d [] b (omega arith)
    ∙ ap (λ k. (all_ready p (starts run b) k).slots) (eqb-true to run.until (and_parts s (to == run.until) on).1)))
    ∙ ap (λ a. cond (s && a) ready []) tells in
    ap text (let z : n + 0 ≡ n = omega arith in z) ∙ ap₂ parts rows spins

-- ---- the end, and behind it the spins where they are printed

pub spins-printed : (end spins : List ℕ) (printed : Bool) → printed ≡ true → end ++ cond printed spins [] ≡ (end ++ spins) ++ []
spins-printed end spins printed on = ap (λ b. end ++ cond b spins []) on ∙ sym (append-nil (end ++ spins))
