-- Bits of words and numbers in bit planes, one sample at a time
-- (docs/specification/bit_planes.md).
use Rattle.std.specs.Prelude.{ℕ, zero, suc, ◌+◌, ◌*◌, ◌^◌, Bool, true, false, not, List, length, slice_index}
use Rattle.std.specs.Int.{bit_at}
pub use Rattle.spin_model.specs.Words.{is_set, one_if}

-- whether exactly one of the two holds
abbrev pub differs : Bool → Bool → Bool
differs true b = not b
differs false b = b

-- the number of sample b in the first w planes: the sum over i below w of 2 ^ i times bit b of
-- plane i, where a plane past the last is zero
unfoldable pub first : List ℕ → ℕ → ℕ → ℕ
first words zero b = 0
first words (suc w) b = first words w b + 2 ^ w * bit_at (slice_index words w) b

-- the number of sample b, in all planes
abbrev pub number : List ℕ → ℕ → ℕ
number words b = first words (length words) b
