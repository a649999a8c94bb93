-- The tests of a checkpoint, each with what it refuses.
use Rattle.std.specs.Prelude.{ℕ, zero, suc, ◌+◌, ◌*◌, ◌/◌, ◌%◌, Bool, false, ◌||◌, ◌&&◌, ◌==◌, nat_le, nat_lt, if◌then◌else◌, List, length, take, Option, Some, None}
use Rattle.std.specs.Str.{bytes_eq}
use Rattle.sha2.specs.Sha256.{sha256}
use Rattle.glass_edges.specs.Refusals.{or_else, first_of}
use Rattle.scalar_rule.specs.Plan.{Plan, slots_of}
use Rattle.scalar_rule.specs.Epoch.{slot_at}
use Rattle.scalar_rule.specs.declared.sample.PlainSlot.{PlainSlot}
use Rattle.run_plan.specs.CanonicalPlan.{canonical}
use Rattle.run_checkpoint.specs.declared.refused.CheckpointRefused.{CheckpointRefused}
use Rattle.run_checkpoint.specs.declared.refused.CheckpointRefused.TheVariants as refused
use Rattle.run_checkpoint.specs.Reading.{piece, number_at, body_of, digest_of}

unfoldable pub short : ℕ → List ℕ → Option CheckpointRefused
short least bytes = if nat_lt (length bytes) least then Some (refused.Short (length bytes)) else None

-- the eight letters of the kind
unfoldable pub other_kind : List ℕ → List ℕ → Option CheckpointRefused
other_kind kind bytes = if bytes_eq (take 8 bytes) kind then None else Some refused.Magic

-- the size at a place and the number of slots behind it
unfoldable pub other_shape : Plan → ℕ → List ℕ → Option CheckpointRefused
other_shape plan place bytes =
    if (number_at 4 place bytes == plan.size) && (number_at 4 (place + 4) bytes == slots_of plan) then None
    else Some (refused.Shape (number_at 4 place bytes) (number_at 4 (place + 4) bytes))

unfoldable pub other_length : ℕ → List ℕ → Option CheckpointRefused
other_length wanted bytes = if length bytes == wanted then None else Some (refused.Length (length bytes) wanted)

unfoldable pub damaged : List ℕ → Option CheckpointRefused
damaged bytes =
    if bytes_eq (digest_of bytes) (sha256 (body_of bytes)) then None
    else Some (refused.Digest (digest_of bytes) (sha256 (body_of bytes)))

-- the plan's digest stands behind the letters
unfoldable pub other_plan : Plan → List ℕ → Option CheckpointRefused
other_plan plan bytes =
    if bytes_eq (piece 8 32 bytes) (sha256 (canonical plan)) then None
    else Some (refused.OtherPlan (piece 8 32 bytes) (sha256 (canonical plan)))

-- ---- replica labels

-- whether one of the first n numbers passes
unfoldable pub some_below : (ℕ → Bool) → ℕ → Bool
some_below p zero = false
some_below p (suc n) = some_below p n || p n

-- the label of a slot and replica in a sample
abbrev pub label : (ℕ → List PlainSlot) → ℕ → ℕ → ℕ → ℕ
label slots slot copy sample =
    if copy == 0 then (slot_at (slots sample) slot).first.replica else (slot_at (slots sample) slot).second.replica

-- a label is wrong that is no slot's number, or that an earlier slot has in that replica and sample
abbrev pub is_wrong : ℕ → (ℕ → List PlainSlot) → ℕ → ℕ → ℕ → Bool
is_wrong n slots slot copy sample =
    nat_le n (label slots slot copy sample)
    || some_below (λ earlier. label slots earlier copy sample == label slots slot copy sample) slot

-- place k in order of slot, replica, sample
unfoldable pub wrong_at : ℕ → (ℕ → List PlainSlot) → ℕ → Option CheckpointRefused
wrong_at n slots k =
    if is_wrong n slots (k / 128) (k / 64 % 2) (k % 64) then Some (refused.Replicas (k / 128) (k / 64 % 2) (k % 64)) else None

-- the first wrong label of n slots
unfoldable pub wrong_label : ℕ → (ℕ → List PlainSlot) → Option CheckpointRefused
wrong_label n slots = first_of (wrong_at n slots) 0 (128 * n)

-- ----

unfoldable pub late : ℕ → ℕ → Option CheckpointRefused
late until epoch = if nat_lt until epoch then Some (refused.Late epoch until) else None

-- ---- the form of a bank's bytes

-- what a kind asks: the fewest bytes, the letters, the place of the size, and the number of all bytes
pub record Layout : Type 0 where
  pub least : ℕ
  pub kind : List ℕ
  pub place : ℕ
  pub len : ℕ

-- the tests of the form, in their order
unfoldable pub form_refusal : Layout → Plan → List ℕ → Option CheckpointRefused
form_refusal layout plan bytes =
    or_else (short layout.least bytes) (or_else (other_kind layout.kind bytes) (or_else (other_shape plan layout.place bytes)
    (or_else (other_length layout.len bytes) (or_else (damaged bytes) (other_plan plan bytes)))))
