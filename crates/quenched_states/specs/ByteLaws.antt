-- What holds of the bytes of kept states, for checkpoints of one length.
use Rattle.std.specs.Prelude.{◌≡◌, ℕ, ◌≤◌, ◌<◌, ◌^◌, List, [], length, take, slice_index_or}
use Rattle.sha2.specs.Sha256.{sha256}
use Rattle.glass_edges.specs.Sealed.{body_of, digest_of}
use Rattle.quenched_states.specs.KeptBytes.{kept_kind, kept_encoding, kept_length}
use Rattle.quenched_states.specs.KeptTests.{kept_count, states_in}

-- the checkpoints have this length
abbrev pub HaveLength : ℕ → List (List ℕ) → Type 0
HaveLength len states = (k : ℕ) → k < length states → length (slice_index_or states k []) ≡ len

-- what the tests of the frame say together: the letters, a number of states from 1 on, their length, and the digest
pub record HasFrame (len most : ℕ) (bytes : List ℕ) : Type 0 where
  pub kind : take 8 bytes ≡ kept_kind
  pub some : 1 ≤ kept_count bytes
  pub few : kept_count bytes ≤ most
  pub long : length bytes ≡ kept_length (kept_count bytes) len
  pub digest : digest_of bytes ≡ sha256 (body_of bytes)

abbrev pub KeptBytesAreLong : Type 0
KeptBytesAreLong = (len : ℕ) (states : List (List ℕ)) → HaveLength len states → length (kept_encoding states) ≡ kept_length (length states) len

-- what is written is read
abbrev pub KeptBytesAreRead : Type 0
KeptBytesAreRead = (len : ℕ) (states : List (List ℕ)) → HaveLength len states → length states < 2 ^ 32 → states_in len (kept_encoding states) ≡ states

-- and its frame passes the tests
abbrev pub KeptBytesHaveFrame : Type 0
KeptBytesHaveFrame = (len most : ℕ) (states : List (List ℕ)) → HaveLength len states → 1 ≤ length states → length states ≤ most → most < 2 ^ 32
    → HasFrame len most (kept_encoding states)

-- bytes whose frame passes are those of the states that are read in them: there is one encoding
abbrev pub KeptBytesAreOne : Type 0
KeptBytesAreOne = (len most : ℕ) (bytes : List ℕ) → ((i : ℕ) → slice_index_or bytes i 0 < 256) → HasFrame len most bytes → bytes ≡ kept_encoding (states_in len bytes)
