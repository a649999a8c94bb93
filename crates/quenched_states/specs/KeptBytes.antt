-- The bytes of kept states: their checkpoints at one epoch each, in the order of their times, in a frame. Numbers are big-endian.
use Rattle.std.specs.Prelude.{ℕ, ◌+◌, ◌*◌, ◌++◌, List, codes, flat_map, length}
use Rattle.byteorder.specs.Endian.{big_bytes}
use Rattle.sha2.specs.Sha256.{sha256}

-- the eight letters of the kind
abbrev pub kept_kind : List ℕ
kept_kind = codes "GLASSKS1"

-- they, and the number of states
unfoldable pub kept_header : ℕ → List ℕ
kept_header count = kept_kind ++ big_bytes 4 count

-- all but the digest
unfoldable pub kept_body : List (List ℕ) → List ℕ
kept_body states = kept_header (length states) ++ flat_map (λ state. state) states

unfoldable pub kept_encoding : List (List ℕ) → List ℕ
kept_encoding states = kept_body states ++ sha256 (kept_body states)

-- how many bytes so many states have, of which each has the length `level`
abbrev pub kept_length : ℕ → ℕ → ℕ
kept_length count level = 44 + count * level

-- the most bytes of kept states, as many as the longest checkpoint has
abbrev pub longest_kept : ℕ
longest_kept = 544943596
