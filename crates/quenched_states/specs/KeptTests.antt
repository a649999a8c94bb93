-- How the bytes that a quench goes on from are read: the checkpoints of the states in them, or the first refusal.
use Rattle.std.specs.Prelude.{ℕ, ◌+◌, ◌*◌, Bool, ◌&&◌, ◌==◌, nat_le, nat_lt, if◌then◌else◌, List, [], ◌∷◌, length, take, drop, Option, Some, None}
use Rattle.std.specs.Str.{bytes_eq}
use Rattle.sha2.specs.Sha256.{sha256}
use Rattle.glass_edges.specs.Numbers.{number_at}
use Rattle.glass_edges.specs.Refusals.{or_else, first_found}
use Rattle.glass_edges.specs.Sealed.{body_of, digest_of}
use Rattle.spin_model.specs.Steps.{table}
use Rattle.quenched_states.specs.KeptStates.{time_at}
use Rattle.quenched_states.specs.KeptBytes.{kept_kind, kept_length}

-- how the checkpoint of one state is read: its length, its first refusal, its epoch
pub record LevelTests (E : Type 0) : Type 0 where
  pub len : ℕ
  pub refuses : List ℕ → Option E
  pub epoch : List ℕ → ℕ

-- what is told: a length that is too short; a number of states and the most; a length and the wanted one; the digest that is stored and
-- that of the bytes; a state, its epoch and its time
pub record KeptRefusals (E : Type 0) : Type 0 where
  pub short : ℕ → E
  pub states : ℕ → ℕ → E
  pub other_length : ℕ → ℕ → E
  pub damaged : List ℕ → List ℕ → E
  pub other_time : ℕ → ℕ → ℕ → E

-- bytes of kept states; all others are the checkpoint of one state
abbrev pub are_kept : List ℕ → Bool
are_kept bytes = bytes_eq (take 8 bytes) kept_kind

abbrev pub kept_count : List ℕ → ℕ
kept_count bytes = number_at 4 8 bytes

-- those of state j, of which each has so many
abbrev pub state_bytes : ℕ → List ℕ → ℕ → List ℕ
state_bytes len bytes j = take len (drop (12 + len * j) bytes)

-- the checkpoints of the states
abbrev pub states_in : ℕ → List ℕ → List (List ℕ)
states_in len bytes = if are_kept bytes then table (state_bytes len bytes) (kept_count bytes) else bytes ∷ []

-- ---- the tests, in their order

unfoldable pub short_frame : {E : Type 0} → KeptRefusals E → List ℕ → Option E
short_frame tell bytes = if nat_lt (length bytes) 44 then Some (tell.short (length bytes)) else None

unfoldable pub wrong_count : {E : Type 0} → KeptRefusals E → ℕ → List ℕ → Option E
wrong_count tell most bytes =
    if nat_le 1 (kept_count bytes) && nat_le (kept_count bytes) most then None else Some (tell.states (kept_count bytes) most)

unfoldable pub wrong_length : {E : Type 0} → KeptRefusals E → ℕ → List ℕ → Option E
wrong_length tell len bytes =
    if length bytes == kept_length (kept_count bytes) len then None else Some (tell.other_length (length bytes) (kept_length (kept_count bytes) len))

unfoldable pub wrong_digest : {E : Type 0} → KeptRefusals E → List ℕ → Option E
wrong_digest tell bytes =
    if bytes_eq (digest_of bytes) (sha256 (body_of bytes)) then None else Some (tell.damaged (digest_of bytes) (sha256 (body_of bytes)))

-- of the frame, which one state's checkpoint hasn't
abbrev pub frame_refusal : {E : Type 0} → KeptRefusals E → ℕ → ℕ → List ℕ → Option E
frame_refusal tell len most bytes =
    or_else (short_frame tell bytes) (or_else (wrong_count tell most bytes) (or_else (wrong_length tell len bytes) (wrong_digest tell bytes)))

-- of the states by themselves, the first one's before the next one's
abbrev pub state_refusal : {E : Type 0} → LevelTests E → List (List ℕ) → Option E
state_refusal level states = first_found (λ j state. level.refuses state) 0 states

-- the first one that isn't at its time
abbrev pub times_refusal : {E : Type 0} → KeptRefusals E → LevelTests E → List ℕ → List (List ℕ) → Option E
times_refusal tell level times states =
    first_found (λ j state. if level.epoch state == time_at times j then None else Some (tell.other_time j (level.epoch state) (time_at times j))) 0 states

-- the first refusal of bytes from which a quench of these times is to go on
unfoldable pub kept_refusal : {E : Type 0} → KeptRefusals E → LevelTests E → List ℕ → List ℕ → Option E
kept_refusal tell level times bytes =
    or_else (if are_kept bytes then frame_refusal tell level.len (length times) bytes else None)
    (or_else (state_refusal level (states_in level.len bytes)) (times_refusal tell level times (states_in level.len bytes)))
