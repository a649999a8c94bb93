-- The checkpoint of a run: what it is written from fits, and it is the rule's.
use Rattle.std.proofs.Common.{arith, ◌≡◌, ℕ, ◌^◌, ◌<◌, Bool, true, false, List, [], length, map, replicate, pos, sym, ap, ap₂, ◌∙◌, subst}
use Rattle.std.proofs.lemmas.List.{length-map, length-replicate, get_or-map, get_or-replicate, ext_get_or}
use Rattle.spin_model.specs.Limits.{every_take}
use Rattle.scalar_rule.specs.Plan.{Plan}
use Rattle.scalar_rule.specs.Positions.{pending_count}
use Rattle.scalar_rule.specs.Ragged.{all_ready}
use Rattle.scalar_rule.specs.Serial.{serial}
use Rattle.scalar_rule.specs.declared.sample.Record.{Record}
use Rattle.scalar_rule.specs.declared.sample.Sample.{Sample}
use Rattle.plane_sweep.specs.Packed.{part, StandFits, StandsFor}
use Rattle.plane_sweep.specs.Uneven.{place_at, position_of, level_stand, RaggedStandFits}
use Rattle.plane_sweep.specs.declared.stand.Stand.{Stand}
use Rattle.plane_sweep.specs.declared.uneven.Place.{Place}
use Rattle.plane_sweep.specs.declared.uneven.RaggedStand.{RaggedStand}
use Rattle.plane_sweep.proofs.LevelStands.{level-fits}
use Rattle.exchange_board.specs.Answers.{start_place, stages_of}
use Rattle.exchange_board.specs.Machine.{AllEnded}
use Rattle.exchange_board.specs.Views.{Stage, RaggedEndedView}
use Rattle.run_checkpoint.specs.Encoding.{encoding, flattened}
use Rattle.run_checkpoint.proofs.LevelClauses.{encoding-same}
use Rattle.glass_engine.specs.Laws.{stand_at}
use Rattle.glass_engine.specs.Runs.{RunView, starts, IsEnd}
use Rattle.glass_engine.specs.Saves.{checkpoint, written}
use Rattle.glass_engine.specs.declared.run.SaveKind.TheVariants as saves
use Rattle.glass_engine.proofs.WholeRuns.{unstopped-whole, level-serial}

-- ---- a run to its end is at one epoch

place-by : (e until : ℕ) (a : Bool) → (let p : Place = record { epoch = e; arrived = a } in (start_place p).phase ≡ 0 → (start_place p).epoch ≡ until
    → (let q : Place = record { epoch = until; arrived = false } in p ≡ q))
place-by e until true phase epoch = absurd (omega arith)
place-by e until false phase epoch = let make : ℕ → Place = λ k. record { epoch = k; arrived = false } in ap make epoch

place-ended : (places : List Place) (until t : ℕ) → AllEnded until (map start_place places) → t < length places
    → (let q : Place = record { epoch = until; arrived = false } in place_at places t ≡ q)
place-ended places until t ended h =
    let p = place_at places t in
    let at = get_or-map start_place places t _ _ h in
    let all = ended t (subst (λ k. t < k) (sym (length-map places start_place)) h) in
    place-by p.epoch until p.arrived (sym (ap (λ (s : Stage). s.phase) at) ∙ all.0) (sym (ap (λ (s : Stage). s.epoch) at) ∙ all.1)

places-ended : (places : List Place) (until n : ℕ) → length places ≡ n → AllEnded until (map start_place places) → places ≡ replicate n (record { epoch = until; arrived = false })
places-ended places until n long ended =
    let one : Place = record { epoch = until; arrived = false } in
    ext_get_or (record { epoch = 0; arrived = false }) places (replicate n one) (long ∙ sym (length-replicate n one))
    (λ k h. place-ended places until k ended h ∙ sym (get_or-replicate n k one _ (omega arith)))

pub fits-at : (plan : Plan) (samples every e : ℕ) (stand : RaggedStand) → RaggedStandFits plan samples every stand → e < 2 ^ 64 → StandFits plan (stand_at e stand)
unfolding part
fits-at plan samples every e stand fits small = record {
  epoch = small;
  slots = fits.slots;
  each_slot = fits.each_slot;
  pairs = fits.pairs;
  each_pair = fits.each_pair;
  labels = λ b below. let p = fits.labels b below in record { first = p.first; second = p.second };
}

-- with every slot at rest at an epoch the state is that at one epoch
pub ended-level : (plan : Plan) (samples every until : ℕ) (stand : RaggedStand) → RaggedStandFits plan samples every stand → until < 2 ^ 64 → AllEnded until (stages_of stand)
    → stand ≡ level_stand (stand_at until stand)
ended-level plan samples every until stand fits small ended =
    let s = stand_at until stand in
    let same : stand.places ≡ (level_stand s).places = places-ended stand.places until (length stand.slots) (fits.places ∙ sym fits.slots) ended in
    let level = level-fits plan samples every s (fits-at plan samples every until stand fits small) fits.some_samples fits.few_samples fits.some_every in
    let count : length stand.pending ≡ 0 = fits.pending ∙ ap (λ ps. pending_count samples every (map position_of ps)) same ∙ sym level.pending in
    let none : stand.pending ≡ [] = ext_get_or no-record stand.pending [] count (λ k h. absurd (omega arith)) in
    let make : List Place → List Record → RaggedStand = λ x y. record { places = x; slots = stand.slots; pairs = stand.pairs; pending = y } in
    ap₂ make same none
  where
    no-record : Record
    no-record = record { first_energy = pos 0; second_energy = pos 0; overlap = pos 0; first_replica = 0; second_replica = 0 }

-- and its epoch is that of slot 0
pub ended-flattened : (until : ℕ) (stand : RaggedStand) → 0 < length stand.places → AllEnded until (stages_of stand) → flattened stand ≡ stand_at until stand
ended-flattened until stand some ended =
    let make : ℕ → Stand = λ e. record { epoch = e; slots = stand.slots; pairs = stand.pairs } in
    ap make (ap (λ (p : Place). p.epoch) (place-ended stand.places until 0 ended some))

-- ---- the checkpoint of a run to its end

some-places : (run : RunView) (d : RaggedEndedView) → IsEnd run d → 0 < length d.stand.places
some-places run d e = omega (arith, e.stop.fits.places, e.lawful.plan.rules.some)

written-level : (run : RunView) (d : RaggedEndedView) → run.saves ≡ saves.Level → run.takes ≡ every_take → IsEnd run d
    → checkpoint run d.stand ≡ encoding run.plan (λ b. part run.plan.size b (stand_at run.until d.stand))
written-level run d level takes e =
    let w = unstopped-whole run d takes e in
    ap (λ k. written k run.plan run.orders.samples run.orders.every d.stand) level
    ∙ ap (λ (s : Stand). encoding run.plan (λ b. part run.plan.size b s)) (ended-flattened run.until d.stand (some-places run d e) w.places)

pub whole-checkpoint : (run : RunView) (d : RaggedEndedView) → run.saves ≡ saves.Level → run.takes ≡ every_take → IsEnd run d
    → checkpoint run d.stand ≡ encoding run.plan (λ b. all_ready run.plan (starts run b) run.until)
whole-checkpoint run d level takes e =
    written-level run d level takes e
    ∙ encoding-same run.plan (λ b. part run.plan.size b (stand_at run.until d.stand)) (λ b. all_ready run.plan (starts run b) run.until) (unstopped-whole run d takes e).stand

pub level-checkpoint : (run : RunView) (stand : Stand) (start : ℕ → Sample) (d : RaggedEndedView) → run.saves ≡ saves.Level → run.takes ≡ every_take
    → run.base ≡ level_stand stand → StandFits run.plan stand → StandsFor run.plan start stand → IsEnd run d
    → checkpoint run d.stand ≡ encoding run.plan (λ b. serial run.plan (start b) run.until)
level-checkpoint run stand start d level takes base fits stands e =
    let s = level-serial run stand d takes base fits e in
    written-level run d level takes e
    ∙ encoding-same run.plan (λ b. part run.plan.size b (stand_at run.until d.stand)) (λ b. serial run.plan (start b) run.until)
    (λ b small. s.stand b small ∙ ap (λ (x : Sample). serial run.plan x run.until) (stands b small))
