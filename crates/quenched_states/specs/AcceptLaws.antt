-- What the reader of kept states accepts, whatever the tests of one state are and however refusals are told.
use Rattle.std.specs.Prelude.{◌≡◌, ℕ, ◌<◌, ◌≤◌, ◌^◌, true, List, [], length, slice_index_or, None}
use Rattle.quenched_states.specs.KeptStates.{time_at}
use Rattle.quenched_states.specs.KeptBytes.{kept_encoding}
use Rattle.quenched_states.specs.KeptTests.{KeptRefusals, LevelTests, are_kept, states_in, kept_refusal}
use Rattle.quenched_states.specs.ByteLaws.{HaveLength}

-- each checkpoint passes, and is at its time
abbrev pub AreStatesAt : (E : Type 0) → LevelTests E → List ℕ → List (List ℕ) → Type 0
AreStatesAt E level times states =
    (k : ℕ) → k < length states → (level.refuses (slice_index_or states k []) ≡ None) × (level.epoch (slice_index_or states k []) ≡ time_at times k)

-- the bytes of such states, at most one a time, are accepted
abbrev pub KeptStatesAreAccepted : (E : Type 0) → Type 0
KeptStatesAreAccepted E = (tell : KeptRefusals E) (level : LevelTests E) (times : List ℕ) (states : List (List ℕ)) → HaveLength level.len states → 1 ≤ length states
    → length states ≤ length times → length times < 2 ^ 32 → AreStatesAt E level times states → kept_refusal tell level times (kept_encoding states) ≡ None

-- and what is accepted are such states: those that are read, of which kept states are the bytes
abbrev pub AcceptedAreStates : (E : Type 0) → Type 0
AcceptedAreStates E = (tell : KeptRefusals E) (level : LevelTests E) (times bytes : List ℕ) → kept_refusal tell level times bytes ≡ None
    → AreStatesAt E level times (states_in level.len bytes)

abbrev pub AcceptedBytesAreKept : (E : Type 0) → Type 0
AcceptedBytesAreKept E = (tell : KeptRefusals E) (level : LevelTests E) (times bytes : List ℕ) → ((i : ℕ) → slice_index_or bytes i 0 < 256)
    → are_kept bytes ≡ true → kept_refusal tell level times bytes ≡ None → bytes ≡ kept_encoding (states_in level.len bytes)
