-- The sums of each two copies of a bank's slots, as they are held.
use Rattle.std.specs.Prelude.{◌≢◌, ℕ, ◌+◌, ◌*◌, ◌/◌, ◌%◌, ◌<◌, List, [], slice_index_or}
use Rattle.plane_sweep.specs.Packed.{part_slot}
use Rattle.plane_sweep.specs.declared.replica.Duo.{Duo}
use Rattle.plane_sweep.specs.declared.stand.Stand.{Stand}
use Rattle.measured_sums.specs.OverlapField.{Field}
use Rattle.quenched_states.specs.Copies.{CopyPair, pair_field}
use Rattle.quenched_states.specs.CrossText.{CrossHeading}
use Rattle.plane_sums.specs.Fields.{TellsField}
use Rattle.plane_sums.specs.declared.fields.FieldSums.{FieldSums}
use Rattle.copies_report.specs.States.{bank_at, pair_at, slot_among}

-- those of pair p of slot t
abbrev pub held_at : List FieldSums → ℕ → ℕ → FieldSums
held_at sums t p = slice_index_or sums (6 * t + p) (record { links = []; overlaps = []; axis = []; face = [] })

-- the field of two copies of a slot of two states, in sample b of the bank
abbrev pub duo_field : ℕ → Duo → Duo → CopyPair → ℕ → Field
duo_field l first second pair b = pair_field (part_slot l b first) (part_slot l b second) pair

-- the first n pairs of slot t are held
abbrev pub HoldSlot : ℕ → Duo → Duo → List FieldSums → ℕ → ℕ → Type 0
HoldSlot l first second sums t n = (p : ℕ) → p < n → TellsField l (held_at sums t p) (duo_field l first second (pair_at p))

-- all pairs of the first n slots are
abbrev pub HoldCopies : ℕ → List Duo → List Duo → List FieldSums → ℕ → Type 0
HoldCopies l first second sums n = (t : ℕ) → t < n → HoldSlot l (slot_among first t) (slot_among second t) sums t 6

-- those of a sample's bank are, unless the sample is the first of it
abbrev pub HoldsBankOf : CrossHeading → List Stand → List Stand → List FieldSums → ℕ → Type 0
HoldsBankOf h first second sums b = b % 64 ≢ 0 → HoldCopies h.size (bank_at first (b / 64)).slots (bank_at second (b / 64)).slots sums h.slots

-- the fields of a bank, by sample, slot and pair
abbrev pub bank_fields : ℕ → List Duo → List Duo → ℕ → ℕ → CopyPair → Field
bank_fields l first second b t pair = duo_field l (slot_among first t) (slot_among second t) pair (b % 64)
