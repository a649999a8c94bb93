-- Numbers in the bytes of a file, big-endian and unsigned.
use Rattle.std.specs.Prelude.{ℕ, List, drop}
use Rattle.byteorder.specs.Endian.{big_number}

-- the number of w bytes at a place
abbrev pub number_at : ℕ → ℕ → List ℕ → ℕ
number_at w place bytes = big_number w (drop place bytes)
