-- The clauses of the reader of checkpoints of either kind.
use Rattle.std.proofs.Common.{◌≡◌, ◌⊎◌, ℕ, ◌*◌, ◌<◌, ◌≤◌, ◌^◌, Bool, true, false, ◌&&◌, cond, List, [], length, map, take, drop, Some, None, Result, Ok, Err, refl, sym, ap, subst, ◌∙◌, arith, inl, inr}
use Rattle.std.specs.Prelude.{IfOk, IfErr, ◌==◌}
use Rattle.std.specs.Str.{bytes_eq}
use Rattle.std.proofs.lemmas.Bool.{eqb-true, and_parts, eq-eqb}
use Rattle.std.proofs.lemmas.List.{length-drop, length-map}
use Rattle.glass_edges.specs.Refusals.{GivesAfterTests}
use Rattle.scalar_rule.specs.Epoch.{slot_at}
use Rattle.scalar_rule.specs.Laws.{level_start}
use Rattle.scalar_rule.specs.Plan.{Plan, slots_of, IsLawfulPlan}
use Rattle.scalar_rule.specs.Positions.{done, position_in, deepest_of, pending_count, AreInStep}
use Rattle.scalar_rule.specs.Ragged.{Position, UnevenState}
use Rattle.scalar_rule.specs.declared.sample.PlainSlot.{PlainSlot}
use Rattle.scalar_rule.specs.declared.sample.Record.{Record}
use Rattle.scalar_rule.specs.declared.sample.Sample.{Sample}
use Rattle.scalar_rule.proofs.Extremes.{greatest-at}
use Rattle.plane_sweep.specs.Packed.{part_slot, PermutesAt, StandFits}
use Rattle.plane_sweep.specs.Uneven.{position_of, positions_of, uneven_part, level_stand, RaggedStandFits}
use Rattle.plane_sweep.specs.declared.stand.Stand.{Stand}
use Rattle.plane_sweep.specs.declared.uneven.Place.{Place}
use Rattle.plane_sweep.specs.declared.uneven.RaggedStand.{RaggedStand}
use Rattle.plane_sweep.proofs.LevelStands.{level-part, level-fits}
use Rattle.run_checkpoint.specs.Decoding.{level_refusal}
use Rattle.run_checkpoint.specs.Encoding.{encoding, AreBankStates, uneven_bank, uneven_encoding, AreUnevenStates}
use Rattle.run_checkpoint.specs.Kinds.{Uneven, level_kind, uneven_kind, sealed}
use Rattle.run_checkpoint.specs.Lengths.{slot_len}
use Rattle.run_checkpoint.specs.Reading.{number_at, parts_in, stand_in}
use Rattle.run_checkpoint.specs.Tests.{short, form_refusal, wrong_label}
use Rattle.run_checkpoint.specs.UnevenDecoding.{epoch_in, phase_in, places_in, count_in, slots_place, records_place, uneven_in, is_wrong_place, wrong_place_at, wrong_place, HasRightPlaces, other_orders, other_count, uneven_layout, uneven_refusal, is_uneven, any_refusal, any_in, any_decoded, IsUnevenEncoded, IsAnyEncoded}
use Rattle.run_checkpoint.specs.declared.refused.CheckpointRefused.{CheckpointRefused}
use Rattle.run_checkpoint.specs.declared.refused.CheckpointRefused.TheVariants as refused
use Rattle.run_checkpoint.proofs.PackedParts.{bank-same}
use Rattle.run_checkpoint.proofs.LabelTests.{right-labels, labels-right}
use Rattle.run_checkpoint.proofs.LevelClauses.{none-is, packed-none, level-tells, states-packed, states-epoch, slots-first}
use Rattle.run_checkpoint.proofs.LevelForm.{packed_body, stand-again, form-again as level_form-again, form-long}
use Rattle.run_checkpoint.proofs.Tested.{HasForm, form-is, form-right, form-tells, Tells, tells-or, tells-if, tells-first, tells-label, tells-late, tells-short, late-is, in-time, long-enough, memory-or}
use Rattle.run_checkpoint.proofs.UnevenForm.{uneven-long, uneven_body, uneven-packed, count-again, uneven_form-again, orders-again, uneven-again, uneven-back, phases-again}
use Rattle.run_checkpoint.proofs.UnevenParts.{records-count, records-fit}
use Rattle.run_checkpoint.proofs.UnevenPlaces.{positions-count, position-at, right-places, places-none, step-right}
use Rattle.run_checkpoint.proofs.WrittenAgain.{slots-fit, slots-count, pairs-count, pairs-fit}
use Rattle.glass_edges.proofs.FirstRefusals.{if-none, or-later, or-none, unless-ok}
use Rattle.glass_edges.proofs.NumberBytes.{IsBytes, bytes-drop}
use Rattle.std.proofs.lemmas.Slice.Eq.{bytes_eq-Decides}

-- ---- orders and the number of records

orders-are : (samples every : ℕ) (bytes : List ℕ) → None ≡ other_orders samples every bytes → (number_at 4 48 bytes ≡ samples) × (number_at 8 52 bytes ≡ every)
unfolding other_orders
orders-are samples every bytes e =
    let h = and_parts (number_at 4 48 bytes == samples) (number_at 8 52 bytes == every) (if-none _ None _ e).0 in
    (eqb-true _ _ h.0, eqb-true _ _ h.1)

orders-right : (samples every : ℕ) (bytes : List ℕ) → number_at 4 48 bytes ≡ samples → number_at 8 52 bytes ≡ every → None ≡ other_orders samples every bytes
unfolding other_orders
orders-right samples every bytes a b = rw (eq-eqb (number_at 4 48 bytes) samples a, eq-eqb (number_at 8 52 bytes) every b) refl

count-is : (samples every count : ℕ) (places : List Place) → None ≡ other_count samples every count places → count ≡ pending_count samples every (map position_of places)
unfolding other_count
count-is samples every count places e = eqb-true _ _ (if-none _ None _ e).0

count-right : (samples every count : ℕ) (places : List Place) → count ≡ pending_count samples every (map position_of places) → None ≡ other_count samples every count places
unfolding other_count
count-right samples every count places e = rw (eq-eqb count _ e) refl

-- ---- no test answers that memory ran out

tells-one : (n : ℕ) (E P : ℕ → ℕ) (t : ℕ) → Tells (wrong_place_at n E P t)
unfolding wrong_place_at
tells-one n E P t =
    let other : ¬ (refused.Places t ≡ refused.NoMemory) = λ e. absurd cc in
    tells-if (is_wrong_place n E P t) (Some (refused.Places t)) None other tt

tells-place : (n : ℕ) (bytes : List ℕ) → Tells (wrong_place n bytes)
unfolding wrong_place
tells-place n bytes = tells-first (wrong_place_at n (epoch_in bytes) (phase_in bytes)) (tells-one n (epoch_in bytes) (phase_in bytes)) 0 n

tells-orders : (samples every : ℕ) (bytes : List ℕ) → Tells (other_orders samples every bytes)
unfolding other_orders
tells-orders samples every bytes =
    let other : ¬ (refused.Orders (number_at 4 48 bytes) (number_at 8 52 bytes) ≡ refused.NoMemory) = λ e. absurd cc in
    tells-if ((number_at 4 48 bytes == samples) && (number_at 8 52 bytes == every)) None (Some (refused.Orders (number_at 4 48 bytes) (number_at 8 52 bytes))) tt other

tells-count : (samples every count : ℕ) (places : List Place) → Tells (other_count samples every count places)
unfolding other_count
tells-count samples every count places =
    let wanted = pending_count samples every (map position_of places) in
    let other : ¬ (refused.Pending count wanted ≡ refused.NoMemory) = λ e. absurd cc in
    tells-if (count == wanted) None (Some (refused.Pending count wanted)) tt other

uneven-tells : (plan : Plan) (samples every until : ℕ) (bytes : List ℕ) → Tells (uneven_refusal plan samples every until bytes)
unfolding uneven_refusal
uneven-tells plan samples every until bytes =
    tells-or _ _ (form-tells (uneven_layout plan bytes) plan bytes) (tells-or _ _ (tells-label _ _) (tells-or _ _ (tells-place _ _) (tells-or _ _ (tells-orders samples every bytes) (tells-or _ _ (tells-count samples every _ _) (tells-late until _)))))

pub any-tells : (plan : Plan) (samples every until : ℕ) (bytes : List ℕ) → Tells (any_refusal plan samples every until bytes)
unfolding any_refusal
any-tells plan samples every until bytes =
    tells-or _ _ (tells-short 88 bytes) (tells-if (is_uneven bytes) (uneven_refusal plan samples every until bytes) (level_refusal plan until bytes) (uneven-tells plan samples every until bytes) (level-tells plan until bytes))

-- ---- what is read fits and is encoded so

uneven-fits : (plan : Plan) (samples every : ℕ) (bytes : List ℕ) → 1 ≤ samples → samples ≤ 64 → 1 ≤ every → IsBytes bytes → HasForm (uneven_layout plan bytes) plan bytes
    → None ≡ wrong_label (slots_of plan) (parts_in plan.size (slots_of plan) (drop (slots_place (slots_of plan)) bytes)) → HasRightPlaces (slots_of plan) (drop 64 bytes)
    → count_in bytes ≡ pending_count samples every (map position_of (places_in (slots_of plan) (drop 64 bytes))) → RaggedStandFits plan samples every (uneven_in plan bytes)
unfolding uneven_in
uneven-fits plan samples every bytes some few one are has labels right counted =
    let n = slots_of plan in
    let rest = drop (slots_place n) bytes in
    let are_rest = bytes-drop (slots_place n) bytes are in
    let room : slot_len plan.size * n ≤ length rest = omega (arith, length-drop (slots_place n) bytes, uneven-long plan.size n (count_in bytes), has.len, slots-first plan.size n) in
    record {
      some_samples = some;
      few_samples = few;
      some_every = one;
      places = sym (length-map (places_in n (drop 64 bytes)) position_of) ∙ positions-count n (drop 64 bytes);
      epochs = λ t h.
          let z = right.epochs t h in
          let e = ap (λ (p : Position). p.epoch) (position-at n t (drop 64 bytes) h) in
          subst (λ k. k < 2 ^ 64) (sym e) (limit-small _ z);
      slots = slots-count plan.size n rest;
      each_slot = slots-fit plan.size n rest are_rest room;
      pairs = pairs-count plan.size n rest;
      each_pair = pairs-fit plan.size n rest are_rest;
      labels = right-labels n (parts_in plan.size n rest) labels;
      in_step = right.in_step;
      pending = records-count (count_in bytes) _ ∙ counted;
      each_pending = records-fit (count_in bytes) _ (bytes-drop (records_place plan.size n) bytes are);
    }
  where
    limit-small : (k : ℕ) → k ≤ 1000000000 → k < 2 ^ 64
    limit-small k h = omega arith

pending-counted : (plan : Plan) (bytes : List ℕ) → length (uneven_in plan bytes).pending ≡ count_in bytes
unfolding uneven_in
pending-counted plan bytes = records-count (count_in bytes) _

own-count : (plan : Plan) (samples every : ℕ) (bytes : List ℕ) → count_in bytes ≡ pending_count samples every (map position_of (uneven_in plan bytes).places) → count_in bytes ≡ pending_count samples every (map position_of (places_in (slots_of plan) (drop 64 bytes)))
unfolding uneven_in
own-count plan samples every bytes e = e

uneven-none : (plan : Plan) (samples every until : ℕ) (bytes : List ℕ) → IsLawfulPlan plan → 1 ≤ samples → samples ≤ 64 → 1 ≤ every → IsBytes bytes → None ≡ uneven_refusal plan samples every until bytes
    → IsUnevenEncoded plan samples every until bytes (uneven_in plan bytes)
unfolding uneven_refusal
uneven-none plan samples every until bytes lawful some few one are none =
    let n = slots_of plan in
    let a = or-none (form_refusal (uneven_layout plan bytes) plan bytes) _ none in
    let b = or-none (wrong_label n (parts_in plan.size n (drop (slots_place n) bytes))) _ a.1 in
    let c = or-none (wrong_place n (drop 64 bytes)) _ b.1 in
    let d = or-none (other_orders samples every bytes) _ c.1 in
    let e = or-none (other_count samples every (count_in bytes) (uneven_in plan bytes).places) _ d.1 in
    let has = form-is (uneven_layout plan bytes) plan bytes a.0 in
    let right = right-places n (drop 64 bytes) c.0 in
    let orders = orders-are samples every bytes d.0 in
    let fits = uneven-fits plan samples every bytes some few one are has b.0 right (own-count plan samples every bytes (count-is samples every (count_in bytes) _ e.0)) in
    record {
      fits = fits;
      in_time = late-is until _ e.1;
      bytes_are = uneven-back plan samples every bytes are has right.phases orders.0 orders.1 (pending-counted plan bytes) ∙ sym (uneven-packed plan samples every (uneven_in plan bytes) lawful fits);
    }

-- ---- what is encoded is read

fit-labels : (plan : Plan) (samples every : ℕ) (bytes : List ℕ) (stand : RaggedStand) → RaggedStandFits plan samples every stand → uneven_in plan bytes ≡ stand
    → (b : ℕ) → b < 64 → PermutesAt (slots_of plan) (λ t. slot_at (parts_in plan.size (slots_of plan) (drop (slots_place (slots_of plan)) bytes) b) t)
unfolding uneven_in
fit-labels plan samples every bytes stand fits again b small =
    subst (λ (ss : List PlainSlot). PermutesAt (slots_of plan) (λ t. slot_at ss t)) (ap (λ (s : RaggedStand). map (part_slot plan.size b) s.slots) (sym again)) (fits.labels b small)

own-places : (plan : Plan) (bytes : List ℕ) → (uneven_in plan bytes).places ≡ places_in (slots_of plan) (drop 64 bytes)
unfolding uneven_in
own-places plan bytes = refl

-- a position that stands there by itself has one of the two phases
stored-phase : (plan : Plan) (samples every : ℕ) (stand : RaggedStand) → IsLawfulPlan plan → RaggedStandFits plan samples every stand → (t : ℕ) → t < slots_of plan
    → (phase_in (drop 64 (sealed (uneven_body plan samples every stand))) t ≡ 0) ⊎ (phase_in (drop 64 (sealed (uneven_body plan samples every stand))) t ≡ 2)
stored-phase plan samples every stand lawful fits t h = phases-again plan samples every stand fits t h

uneven-right : (plan : Plan) (samples every until : ℕ) (stand : RaggedStand) → IsLawfulPlan plan → RaggedStandFits plan samples every stand → every < 2 ^ 64 → until ≤ 1000000000 → deepest_of (positions_of stand) ≤ until
    → None ≡ uneven_refusal plan samples every until (sealed (uneven_body plan samples every stand))
unfolding uneven_refusal
uneven-right plan samples every until stand lawful fits small last deep =
    let bytes = sealed (uneven_body plan samples every stand) in
    let n = slots_of plan in
    let again = uneven-again plan samples every stand lawful fits in
    let places : places_in n (drop 64 bytes) ≡ stand.places = sym (own-places plan bytes) ∙ ap (λ (s : RaggedStand). s.places) again in
    let positions : map position_of (places_in n (drop 64 bytes)) ≡ positions_of stand = ap (map position_of) places in
    let limits : (t : ℕ) → t < n → epoch_in (drop 64 bytes) t ≤ 1000000000 = λ t h.
    let e : (position_in (positions_of stand) t).epoch ≡ epoch_in (drop 64 bytes) t = ap (λ ps. (position_in ps t).epoch) (sym positions) ∙ ap (λ (p : Position). p.epoch) (position-at n t (drop 64 bytes) h) in
    let d = greatest-at (λ u. done (position_in (positions_of stand) u)) (length (positions_of stand)) t (omega (arith, length-map stand.places position_of, fits.places)) in
    omega (arith, e, d, deep, last) in
    let right = places-none n (drop 64 bytes) (step-right n (drop 64 bytes) (subst (AreInStep n) (sym positions) fits.in_step) limits (stored-phase plan samples every stand lawful fits)) in
    let orders = orders-again plan samples every stand fits small in
    let has = uneven_form-again plan samples every stand lawful fits in
    or-later _ _ None (form-right (uneven_layout plan bytes) plan bytes (omega (arith, has.len, uneven-long plan.size (slots_of plan) (count_in bytes))) has)
    (or-later _ _ None (labels-right n _ (fit-labels plan samples every bytes stand fits again))
    (or-later _ _ None right
    (or-later _ _ None (orders-right samples every bytes orders.0 orders.1)
    (or-later _ _ None (count-right samples every (count_in bytes) _ (count-again plan samples every stand lawful fits ∙ fits.pending ∙ ap (λ (s : RaggedStand). pending_count samples every (positions_of s)) (sym again)))
    (in-time until _ (subst (λ (s : RaggedStand). deepest_of (positions_of s) ≤ until) (sym again) deep))))))

-- ---- both kinds

other-kinds : bytes_eq level_kind uneven_kind ≡ false
other-kinds = refl

uneven-first : (bytes : List ℕ) → take 8 bytes ≡ uneven_kind → is_uneven bytes ≡ true
uneven-first bytes e = (bytes_eq-Decides (take 8 bytes) uneven_kind).1 e

level-first : (bytes : List ℕ) → take 8 bytes ≡ level_kind → is_uneven bytes ≡ false
level-first bytes e = ap (λ x. bytes_eq x uneven_kind) e ∙ other-kinds

any-is : (plan : Plan) (samples every until : ℕ) (bytes : List ℕ) (b : Bool) → is_uneven bytes ≡ b → None ≡ cond b (uneven_refusal plan samples every until bytes) (level_refusal plan until bytes)
    → IsLawfulPlan plan → 1 ≤ samples → samples ≤ 64 → 1 ≤ every → IsBytes bytes → IsAnyEncoded plan samples every until bytes (cond b (uneven_in plan bytes) (level_stand (stand_in plan bytes)))
any-is plan samples every until bytes true kind none lawful some few one are = inr (uneven-none plan samples every until bytes lawful some few one are none)
any-is plan samples every until bytes false kind none lawful some few one are = inl (record { stand = stand_in plan bytes; level = refl; encoded = none-is plan until bytes lawful are none })

decoded-any : (plan : Plan) (samples every until : ℕ) (bytes : List ℕ) (ragged : RaggedStand) → IsLawfulPlan plan → 1 ≤ samples → samples ≤ 64 → 1 ≤ every → IsBytes bytes
    → any_decoded plan samples every until bytes ≡ Ok ragged → IsAnyEncoded plan samples every until bytes ragged
unfolding any_decoded any_refusal any_in
decoded-any plan samples every until bytes ragged lawful some few one are e =
    let h = unless-ok _ _ ragged e in
    let none = or-none (short 88 bytes) _ h.0 in
    subst (IsAnyEncoded plan samples every until bytes) h.1 (any-is plan samples every until bytes (is_uneven bytes) refl none.1 lawful some few one are)

pub any-found : (plan : Plan) (samples every until : ℕ) (bytes : List ℕ) (r : Result RaggedStand CheckpointRefused) → IsLawfulPlan plan → 1 ≤ samples → samples ≤ 64 → 1 ≤ every → IsBytes bytes
    → GivesAfterTests refused.NoMemory (λ stand. stand) r (any_decoded plan samples every until bytes) → IfOk r (IsAnyEncoded plan samples every until bytes)
any-found plan samples every until bytes (Ok stand) lawful some few one are given = decoded-any plan samples every until bytes stand lawful some few one are given
any-found plan samples every until bytes (Err e) lawful some few one are given = tt

any-fits : (plan : Plan) (samples every until : ℕ) (bytes : List ℕ) (ragged : RaggedStand) → 1 ≤ samples → samples ≤ 64 → 1 ≤ every → IsAnyEncoded plan samples every until bytes ragged → RaggedStandFits plan samples every ragged
any-fits plan samples every until bytes ragged some few one (inl level) = subst (RaggedStandFits plan samples every) (sym level.level) (level-fits plan samples every level.stand level.encoded.fits some few one)
any-fits plan samples every until bytes ragged some few one (inr uneven) = uneven.fits

pub found-fits : (plan : Plan) (samples every until : ℕ) (bytes : List ℕ) (r : Result RaggedStand CheckpointRefused) → 1 ≤ samples → samples ≤ 64 → 1 ≤ every → IfOk r (IsAnyEncoded plan samples every until bytes) → IfOk r (RaggedStandFits plan samples every)
found-fits plan samples every until bytes (Ok stand) some few one found = any-fits plan samples every until bytes stand some few one found
found-fits plan samples every until bytes (Err e) some few one found = tt

level-read : (plan : Plan) (samples every until : ℕ) (stand : Stand) → IsLawfulPlan plan → StandFits plan stand → stand.epoch ≤ until → any_decoded plan samples every until (sealed (packed_body plan stand)) ≡ Ok (level_stand stand)
unfolding any_decoded any_refusal any_in
level-read plan samples every until stand lawful fits le =
    let bytes = sealed (packed_body plan stand) in
    let has = level_form-again plan stand lawful fits in
    let kind = level-first bytes has.kind in
    let long = long-enough 88 bytes (omega (arith, has.len, form-long plan.size (slots_of plan))) in
    rw (← long, kind, ← packed-none plan until stand lawful fits le, stand-again plan stand fits) refl

uneven-read : (plan : Plan) (samples every until : ℕ) (stand : RaggedStand) → IsLawfulPlan plan → RaggedStandFits plan samples every stand → every < 2 ^ 64 → until ≤ 1000000000 → deepest_of (positions_of stand) ≤ until
    → any_decoded plan samples every until (sealed (uneven_body plan samples every stand)) ≡ Ok stand
unfolding any_decoded any_refusal any_in
uneven-read plan samples every until stand lawful fits small last deep =
    let bytes = sealed (uneven_body plan samples every stand) in
    let has = uneven_form-again plan samples every stand lawful fits in
    let kind = uneven-first bytes has.kind in
    let long = long-enough 88 bytes (omega (arith, has.len, uneven-long plan.size (slots_of plan) (count_in bytes))) in
    rw (← long, kind, ← uneven-right plan samples every until stand lawful fits small last deep, uneven-again plan samples every stand lawful fits) refl

-- ---- the clauses

same-ok : (a b : RaggedStand) → ◌≡◌ {A = Result RaggedStand CheckpointRefused} (Ok a) (Ok b) → a ≡ b
same-ok a b e = cc

given-only : (P : RaggedStand → Type 0) (stand : RaggedStand) (r : Result RaggedStand CheckpointRefused) → P stand
    → GivesAfterTests refused.NoMemory (λ s. s) r (Ok stand) → IfOk r P × IfErr r (λ e. e ≡ refused.NoMemory)
given-only P stand (Ok s) holds given = (subst P (same-ok stand s given) holds, tt)
given-only P stand (Err e) holds given = elim (memory-or e) [
  | inl memory ↦ (tt, memory)
  | inr not ↦ let clash = given.1 not in absurd cc
]

pub any-level : (plan : Plan) (samples every until : ℕ) (bytes : List ℕ) (r : Result RaggedStand CheckpointRefused) (states : ℕ → Sample) → IsLawfulPlan plan → AreBankStates plan states → (states 0).epoch ≤ until
    → bytes ≡ encoding plan states → GivesAfterTests refused.NoMemory (λ stand. stand) r (any_decoded plan samples every until bytes)
    → IfOk r (λ stand. ((b : ℕ) → b < 64 → uneven_part plan.size b stand ≡ level_start plan (states b)) × (stand.pending ≡ [])) × IfErr r (λ e. e ≡ refused.NoMemory)
any-level plan samples every until bytes r states lawful are le is given =
    let whole : bytes ≡ sealed (packed_body plan are.stand) = is ∙ states-packed plan states are lawful in
    let read = ap (any_decoded plan samples every until) whole ∙ level-read plan samples every until are.stand lawful are.fits (omega (arith, le, states-epoch plan states are)) in
    given-only _ (level_stand are.stand) r
    ((λ b small. level-part plan b are.stand are.fits.slots ∙ ap (level_start plan) (are.stands b small)), refl)
    (subst (GivesAfterTests refused.NoMemory (λ s. s) r) read given)

uneven-same : (plan : Plan) (samples every : ℕ) (s t : ℕ → UnevenState) (pending : List Record) → ((b : ℕ) → b < 64 → s b ≡ t b) → uneven_encoding plan samples every s pending ≡ uneven_encoding plan samples every t pending
unfolding uneven_bank
uneven-same plan samples every s t pending same =
    let first : s 0 ≡ t 0 = same 0 (omega arith) in
    bank-same plan (uneven_bank samples every s pending) (uneven_bank samples every t pending)
    (ap (λ (x : UnevenState). Uneven samples every x.positions pending) first) (λ b small. ap (λ (x : UnevenState). x.slots) (same b small)) (ap (λ (x : UnevenState). x.pairs) first)

pub uneven_states-packed : (plan : Plan) (samples every : ℕ) (states : ℕ → UnevenState) (pending : List Record) (are : AreUnevenStates plan samples every states pending) → IsLawfulPlan plan
    → uneven_encoding plan samples every states pending ≡ sealed (uneven_body plan samples every are.stand)
uneven_states-packed plan samples every states pending are lawful =
    uneven-same plan samples every states (λ b. uneven_part plan.size b are.stand) pending (λ b small. sym (are.stands b small))
    ∙ ap (uneven_encoding plan samples every (λ b. uneven_part plan.size b are.stand)) (sym are.records)
    ∙ uneven-packed plan samples every are.stand lawful are.fits

pub any-uneven : (plan : Plan) (samples every until : ℕ) (bytes : List ℕ) (r : Result RaggedStand CheckpointRefused) (states : ℕ → UnevenState) (pending : List Record) → IsLawfulPlan plan → every < 2 ^ 64 → until ≤ 1000000000
    → AreUnevenStates plan samples every states pending → deepest_of (states 0).positions ≤ until → bytes ≡ uneven_encoding plan samples every states pending
    → GivesAfterTests refused.NoMemory (λ stand. stand) r (any_decoded plan samples every until bytes)
    → IfOk r (λ stand. ((b : ℕ) → b < 64 → uneven_part plan.size b stand ≡ states b) × (stand.pending ≡ pending)) × IfErr r (λ e. e ≡ refused.NoMemory)
any-uneven plan samples every until bytes r states pending lawful small last are deep is given =
    let whole : bytes ≡ sealed (uneven_body plan samples every are.stand) = is ∙ uneven_states-packed plan samples every states pending are lawful in
    let own : deepest_of (positions_of are.stand) ≤ until = subst (λ (s : UnevenState). deepest_of s.positions ≤ until) (sym (are.stands 0 (omega arith))) deep in
    let read = ap (any_decoded plan samples every until) whole ∙ uneven-read plan samples every until are.stand lawful are.fits small last own in
    given-only _ are.stand r (are.stands, are.records) (subst (GivesAfterTests refused.NoMemory (λ s. s) r) read given)
