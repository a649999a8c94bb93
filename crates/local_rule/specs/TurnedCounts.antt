-- A count of the six bits of a site whose bits of 2 and 4 are turned over, as the update in lanes has it.
use Rattle.std.specs.Prelude.{ℕ, ◌+◌, ◌*◌, Bool, not, ◌&&◌, if◌then◌else◌, List, slice_index}
use Rattle.multispin_word.specs.Planes.{differs, is_set, one_if}

-- a number by three bits, the one of 1 and those of 2 and 4 turned over
abbrev pub turned_number : List ℕ → ℕ → ℕ
turned_number planes b =
    one_if (is_set (slice_index planes 0) b) + 2 * one_if (not (is_set (slice_index planes 1) b))
    + 4 * one_if (not (is_set (slice_index planes 2) b))

-- one of three, for a count of four to six: by its bit of 1, and the bit of 2 turned over
abbrev pub accepted : Bool → Bool → Bool → Bool → Bool → Bool
accepted ones no_twos four five six =
    differs (if ones then five else four) (not no_twos && differs four six)
