-- Counts and differences of one sample (docs/specification/bit_planes.md). Sums and comparisons
-- are those of ℕ.
use Rattle.std.specs.Prelude.{ℕ, ◌+◌, ◌-◌, ◌%◌, ◌^◌, List, slice_index}
use Rattle.std.specs.Int.{bit_at}

-- in how many of six words bit b is set
abbrev pub count_of : List ℕ → ℕ → ℕ
count_of six b =
    bit_at (slice_index six 0) b + bit_at (slice_index six 1) b + bit_at (slice_index six 2) b
    + bit_at (slice_index six 3) b + bit_at (slice_index six 4) b + bit_at (slice_index six 5) b

-- x minus y for numbers of w planes: the difference modulo 2 ^ w
abbrev pub difference_modulo : ℕ → ℕ → ℕ → ℕ
difference_modulo w x y = (x + 2 ^ w - y) % 2 ^ w
