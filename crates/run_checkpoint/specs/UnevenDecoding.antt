-- The state that the bytes of a checkpoint of either kind are, or their first refusal.
use Rattle.std.specs.Prelude.{◌≡◌, ◌<◌, ◌≤◌, ◌⊎◌, true, false, ℕ, ◌+◌, ◌-◌, ◌*◌, Bool, not, ◌&&◌, ◌||◌, ◌==◌, nat_lt, if◌then◌else◌, List, map, drop, slice_index, length, Option, Some, None, Result}
use Rattle.std.specs.Str.{bytes_eq}
use Rattle.std.specs.Int.{w32, cast_signed}
use Rattle.std.specs.Prelude.{ℤ, take}
use Rattle.glass_edges.specs.Refusals.{or_else, first_of, unless}
use Rattle.spin_model.specs.Limits.{last_epoch}
use Rattle.scalar_rule.specs.Plan.{Plan, slots_of}
use Rattle.scalar_rule.specs.Epoch.{has_turn, has_partner}
use Rattle.scalar_rule.specs.Positions.{turns, deepest_of, pending_count, AreInStep}
use Rattle.scalar_rule.specs.declared.sample.Record.{Record}
use Rattle.plane_sweep.specs.Uneven.{positions_of, position_of, uneven_part, RaggedStandFits, level_stand}
use Rattle.plane_sweep.specs.declared.stand.Stand.{Stand}
use Rattle.plane_sweep.specs.declared.uneven.Place.{Place}
use Rattle.plane_sweep.specs.declared.uneven.RaggedStand.{RaggedStand}
use Rattle.run_checkpoint.specs.Kinds.{uneven_kind}
use Rattle.run_checkpoint.specs.declared.refused.CheckpointRefused.{CheckpointRefused}
use Rattle.run_checkpoint.specs.declared.refused.CheckpointRefused.TheVariants as refused
use Rattle.run_checkpoint.specs.Decoding.{level_refusal, IsEncoded}
use Rattle.run_checkpoint.specs.Lengths.{contents_len, position_len, record_len, uneven_len, encoding_len}
use Rattle.run_checkpoint.specs.Reading.{number_at, items_at, slots_in, pairs_in, parts_in, stand_in}
use Rattle.run_checkpoint.specs.Tests.{short, Layout, form_refusal, wrong_label, late}
use Rattle.run_checkpoint.specs.Encoding.{uneven_encoding}

-- ---- reading

-- the epoch and the phase of a slot, from the bytes of all positions
abbrev pub epoch_in : List ℕ → ℕ → ℕ
epoch_in bytes t = number_at 8 (position_len * t) bytes

abbrev pub phase_in : List ℕ → ℕ → ℕ
phase_in bytes t = slice_index bytes (position_len * t + 8)

unfoldable pub place_in : List ℕ → Place
place_in bytes = record { epoch = number_at 8 0 bytes; arrived = slice_index bytes 8 == 2 }

unfoldable pub places_in : ℕ → List ℕ → List Place
places_in n bytes = items_at place_in position_len n bytes

abbrev pub signed_at : ℕ → List ℕ → ℤ
signed_at place bytes = cast_signed w32 (number_at 4 place bytes)

unfoldable pub record_in : List ℕ → Record
record_in bytes = record {
  first_energy = signed_at 0 bytes;
  second_energy = signed_at 4 bytes;
  overlap = signed_at 8 bytes;
  first_replica = slice_index bytes 12;
  second_replica = slice_index bytes 13;
}

unfoldable pub records_in : ℕ → List ℕ → List Record
records_in count bytes = items_at record_in record_len count bytes

-- where the slots and the records begin
abbrev pub slots_place : ℕ → ℕ
slots_place n = 64 + position_len * n

abbrev pub records_place : ℕ → ℕ → ℕ
records_place l n = slots_place n + contents_len l n

-- the stored number of records
abbrev pub count_in : List ℕ → ℕ
count_in bytes = number_at 4 60 bytes

unfoldable pub uneven_in : Plan → List ℕ → RaggedStand
uneven_in plan bytes = record {
  places = places_in (slots_of plan) (drop 64 bytes);
  slots = slots_in plan.size (slots_of plan) (drop (slots_place (slots_of plan)) bytes);
  pairs = pairs_in plan.size (slots_of plan) (drop (slots_place (slots_of plan)) bytes);
  pending = records_in (count_in bytes) (drop (records_place plan.size (slots_of plan)) bytes);
}

-- ---- tests

-- slot t of n slots has a wrong place: its phase isn't 0 or 2; its epoch is past the greatest; it waits without a partner;
-- the turns that the pair below it has behind it aren't those of its colder slot; or both wait at one epoch of the pair's
unfoldable pub is_wrong_place : ℕ → (ℕ → ℕ) → (ℕ → ℕ) → ℕ → Bool
is_wrong_place n epoch phase t =
    not ((phase t == 0) || (phase t == 2))
    || (nat_lt last_epoch (epoch t)
    || (((phase t == 2) && not (has_partner n t (epoch t)))
    || (nat_lt 0 t && (not (turns (t - 1) (epoch (t - 1)) == turns (t - 1) (epoch t))
    || ((phase (t - 1) == 2) && ((phase t == 2) && ((epoch (t - 1) == epoch t) && has_turn (t - 1) (epoch t))))))))

unfoldable pub wrong_place_at : ℕ → (ℕ → ℕ) → (ℕ → ℕ) → ℕ → Option CheckpointRefused
wrong_place_at n epoch phase t = if is_wrong_place n epoch phase t then Some (refused.Places t) else None

-- the first slot with a wrong place
unfoldable pub wrong_place : ℕ → List ℕ → Option CheckpointRefused
wrong_place n bytes = first_of (wrong_place_at n (epoch_in bytes) (phase_in bytes)) 0 n

-- what is known of positions of which none is wrong
pub record HasRightPlaces (n : ℕ) (bytes : List ℕ) : Type 0 where
  pub epochs : (t : ℕ) → t < n → epoch_in bytes t ≤ last_epoch
  pub phases : (t : ℕ) → t < n → (phase_in bytes t ≡ 0) ⊎ (phase_in bytes t ≡ 2)
  pub in_step : AreInStep n (map position_of (places_in n bytes))

-- the printed samples and how often epochs are recorded are others than those asked for
unfoldable pub other_orders : ℕ → ℕ → List ℕ → Option CheckpointRefused
other_orders samples every bytes =
    if (number_at 4 48 bytes == samples) && (number_at 8 52 bytes == every) then None
    else Some (refused.Orders (number_at 4 48 bytes) (number_at 8 52 bytes))

-- the number of records isn't what the positions ask for
unfoldable pub other_count : ℕ → ℕ → ℕ → List Place → Option CheckpointRefused
other_count samples every count places =
    if count == pending_count samples every (map position_of places) then None
    else Some (refused.Pending count (pending_count samples every (map position_of places)))

abbrev pub uneven_layout : Plan → List ℕ → Layout
uneven_layout plan bytes = record { least = 96; kind = uneven_kind; place = 40; len = uneven_len plan.size (slots_of plan) (count_in bytes) }

unfoldable pub uneven_refusal : Plan → ℕ → ℕ → ℕ → List ℕ → Option CheckpointRefused
uneven_refusal plan samples every until bytes =
    or_else (form_refusal (uneven_layout plan bytes) plan bytes)
    (or_else (wrong_label (slots_of plan) (parts_in plan.size (slots_of plan) (drop (slots_place (slots_of plan)) bytes)))
    (or_else (wrong_place (slots_of plan) (drop 64 bytes))
    (or_else (other_orders samples every bytes)
    (or_else (other_count samples every (count_in bytes) (uneven_in plan bytes).places)
    (late until (deepest_of (positions_of (uneven_in plan bytes))))))))

-- whether the bytes are of the kind whose slots may be at different epochs
abbrev pub is_uneven : List ℕ → Bool
is_uneven bytes = bytes_eq (take 8 bytes) uneven_kind

unfoldable pub any_refusal : Plan → ℕ → ℕ → ℕ → List ℕ → Option CheckpointRefused
any_refusal plan samples every until bytes =
    or_else (short 88 bytes) (if is_uneven bytes then uneven_refusal plan samples every until bytes else level_refusal plan until bytes)

-- the bytes have the length of their kind
pub record HasLength (plan : Plan) (bytes : List ℕ) : Type 0 where
  pub uneven : is_uneven bytes ≡ true → length bytes ≡ uneven_len plan.size (slots_of plan) (count_in bytes)
  pub level : is_uneven bytes ≡ false → length bytes ≡ encoding_len plan.size (slots_of plan)

unfoldable pub any_in : Plan → List ℕ → RaggedStand
any_in plan bytes = if is_uneven bytes then uneven_in plan bytes else level_stand (stand_in plan bytes)

unfoldable pub any_decoded : Plan → ℕ → ℕ → ℕ → List ℕ → Result RaggedStand CheckpointRefused
any_decoded plan samples every until bytes = unless (any_refusal plan samples every until bytes) (any_in plan bytes)

-- ---- what is read

-- the bytes are the checkpoint of the states at different epochs that a packed state stands for
pub record IsUnevenEncoded (plan : Plan) (samples every until : ℕ) (bytes : List ℕ) (stand : RaggedStand) : Type 0 where
  pub fits : RaggedStandFits plan samples every stand
  pub in_time : deepest_of (positions_of stand) ≤ until
  pub bytes_are : bytes ≡ uneven_encoding plan samples every (λ b. uneven_part plan.size b stand) stand.pending

-- the bytes are the checkpoint of a state at one epoch
pub record IsLevelEncoded (plan : Plan) (until : ℕ) (bytes : List ℕ) (ragged : RaggedStand) : Type 0 where
  pub stand : Stand
  pub level : ragged ≡ level_stand stand
  pub encoded : IsEncoded plan until bytes stand

abbrev pub IsAnyEncoded : Plan → ℕ → ℕ → ℕ → List ℕ → RaggedStand → Type 0
IsAnyEncoded plan samples every until bytes ragged =
    IsLevelEncoded plan until bytes ragged ⊎ IsUnevenEncoded plan samples every until bytes ragged
