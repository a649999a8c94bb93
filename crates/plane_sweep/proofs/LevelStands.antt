-- A packed state at one epoch as one whose slots may stand at different epochs; and the least completed epoch.
use Rattle.std.proofs.Common.{arith, ◌≡◌, ℕ, ◌+◌, ◌-◌, ◌*◌, ◌<◌, ◌≤◌, ◌^◌, false, List, length, map, get_or, replicate, refl, sym, ap, ◌∙◌, subst}
use native.Mathlib.Nat.{zero-mul}
use Rattle.std.proofs.lemmas.Bool.{false≢true}
use Rattle.std.proofs.lemmas.List.{get_or-map, length-map, length-replicate, get_or-replicate}
use Rattle.spin_model.specs.Steps.{table}
use Rattle.spin_model.proofs.Tables.{table-of_items, count_below-zero}
use Rattle.scalar_rule.specs.Plan.{Plan, slots_of}
use Rattle.scalar_rule.specs.Laws.{level_start}
use Rattle.scalar_rule.specs.Ragged.{Position, UnevenState}
use Rattle.scalar_rule.specs.Positions.{turns, position_in, done, floor_of, deepest_of, pending_before}
use Rattle.scalar_rule.proofs.Extremes.{flat, least-some, greatest-at}
use Rattle.scalar_rule.proofs.SlotPartners.{turns-say}
use Rattle.plane_sweep.specs.Packed.{part, StandFits}
use Rattle.plane_sweep.specs.Uneven.{place_at, position_of, positions_of, uneven_part, level_stand, RaggedStandFits}
use Rattle.plane_sweep.specs.declared.stand.Stand.{Stand}
use Rattle.plane_sweep.specs.declared.uneven.Place.{Place}

pub position-at : (places : List Place) (t : ℕ) → t < length places → position_in (map position_of places) t ≡ position_of (place_at places t)
position-at places t h = get_or-map position_of places t _ _ h

-- the position at a place that was read
pub position-read : (places : List Place) (t : ℕ) (p : Place) → t < length places → p ≡ get_or places t p → position_in (map position_of places) t ≡ position_of p
position-read places t p h read = get_or-map position_of places t p _ h ∙ ap position_of (sym read)

abbrev here : Stand → Position
here stand = record { epoch = stand.epoch; waits = false }

level-position : (stand : Stand) (t : ℕ) → t < length stand.slots → position_in (positions_of (level_stand stand)) t ≡ here stand
level-position stand t h =
    let one : Place = record { epoch = stand.epoch; arrived = false } in
    let sized = length-replicate (length stand.slots) one in
    get_or-map position_of (replicate (length stand.slots) one) t one _ (omega arith) ∙ ap position_of (get_or-replicate (length stand.slots) t one one h)

level-positions : (stand : Stand) (n : ℕ) → length stand.slots ≡ n → positions_of (level_stand stand) ≡ table (λ t. here stand) n
level-positions stand n sized =
    let one : Place = record { epoch = stand.epoch; arrived = false } in
    let long = length-replicate (length stand.slots) one in
    table-of_items (λ t. here stand) n (record { epoch = 0; waits = false }) (positions_of (level_stand stand))
    (length-map (replicate (length stand.slots) one) position_of ∙ (long ∙ sized))
    (λ t h. level-position stand t (omega arith))

pub level-part : (plan : Plan) (b : ℕ) (stand : Stand) → length stand.slots ≡ slots_of plan → uneven_part plan.size b (level_stand stand) ≡ level_start plan (part plan.size b stand)
unfolding part
level-part plan b stand sized =
    let made : List Position → UnevenState = λ ps. record { bit = b; positions = ps; slots = (part plan.size b stand).slots; pairs = (part plan.size b stand).pairs } in
    ap made (level-positions stand (slots_of plan) sized)

level-flat : (stand : Stand) → deepest_of (positions_of (level_stand stand)) - floor_of (positions_of (level_stand stand)) ≡ 0
level-flat stand =
    let ps = positions_of (level_stand stand) in
    let one : Place = record { epoch = stand.epoch; arrived = false } in
    let long : length ps ≡ length stand.slots = length-map (replicate (length stand.slots) one) position_of ∙ length-replicate (length stand.slots) one in
    flat (λ t. done (position_in ps t)) (length ps) (done (here stand)) (λ t h. ap done (level-position stand t (omega arith)))

none-pending : (samples every n : ℕ) (ps : List Position) → n ≡ 0 → pending_before samples every ps (n * samples * length ps) ≡ 0
none-pending samples every n ps zero_is =
    let z : n * samples * length ps ≡ 0 = rw (zero_is, zero-mul, zero-mul) refl in
    ap (pending_before samples every ps) z ∙ count_below-zero _

pub level-fits : (plan : Plan) (samples every : ℕ) (stand : Stand) → StandFits plan stand → 1 ≤ samples → samples ≤ 64 → 1 ≤ every → RaggedStandFits plan samples every (level_stand stand)
unfolding part
level-fits plan samples every stand fits some few one_every =
    let ps = positions_of (level_stand stand) in
    let n = slots_of plan in
    let one : Place = record { epoch = stand.epoch; arrived = false } in
    let at : (t : ℕ) → t < n → position_in ps t ≡ here stand = λ t h. level-position stand t (omega (arith, fits.slots)) in
    let rests : (t : ℕ) → t < n → (position_in ps t).waits ≡ false = λ t h. ap (λ (p : Position). p.waits) (at t h) in
    let epoch : (t : ℕ) → t < n → (position_in ps t).epoch ≡ stand.epoch = λ t h. ap (λ (p : Position). p.epoch) (at t h) in
    record {
      some_samples = some;
      few_samples = few;
      some_every = one_every;
      places = length-replicate (length stand.slots) one ∙ fits.slots;
      epochs = λ t h. let z = epoch t h in let y = fits.epoch in subst (λ k. k < 2 ^ 64) (sym z) y;
      slots = fits.slots;
      each_slot = fits.each_slot;
      pairs = fits.pairs;
      each_pair = fits.each_pair;
      labels = λ b small. fits.labels b small;
      in_step = record {
        partnered = λ t h w. absurd (false≢true (sym (rests t h) ∙ w));
        turns = λ k h. turns-say k _ _ (ap (λ e. turns k e) (epoch k (omega arith) ∙ sym (epoch (k + 1) h)));
        lone = λ k h w v same. absurd (false≢true (sym (rests k (omega arith)) ∙ w));
      };
      pending = sym (none-pending samples every _ ps (level-flat stand));
      each_pending = λ k d below. absurd (omega arith);
    }

pub level-floor : (stand : Stand) → 0 < length stand.slots → (floor_of (positions_of (level_stand stand)) ≡ stand.epoch) × (deepest_of (positions_of (level_stand stand)) ≡ stand.epoch)
level-floor stand some =
    let ps = positions_of (level_stand stand) in
    let one : Place = record { epoch = stand.epoch; arrived = false } in
    let long : length ps ≡ length stand.slots = length-map (replicate (length stand.slots) one) position_of ∙ length-replicate (length stand.slots) one in
    let each : (t : ℕ) → t < length ps → done (position_in ps t) ≡ stand.epoch + 0 = λ t h. ap done (level-position stand t (omega arith)) in
    let low = least-some (λ t. done (position_in ps t)) (length ps) (omega arith) in
    let at = each low.0 low.1 in
    let is = low.2 in
    let level = level-flat stand in
    let least_is : floor_of ps ≡ stand.epoch = omega arith in
    let deep = greatest-at (λ t. done (position_in ps t)) (length ps) 0 (omega arith) in
    let zero = each 0 (omega arith) in
    (least_is, omega arith)
