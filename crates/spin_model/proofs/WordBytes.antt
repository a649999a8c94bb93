-- How many bytes words have.
use Rattle.std.proofs.Common.{◌≡◌, ℕ, ◌*◌, List, [], ◌∷◌, ◌∙◌, length, length-append, arith}
use Rattle.std.specs.List.{flat_map}
use Rattle.byteorder.specs.Endian.{big_bytes}
use Rattle.byteorder.specs.Numbers.{length-bytes_high_first}
use native.Mathlib.Nat.{mul-suc}

pub length-big_bytes : (w x : ℕ) → length (big_bytes w x) ≡ w
length-big_bytes w x = length-bytes_high_first w x

pub length-words : (w : ℕ) (words : List ℕ) → length (flat_map (big_bytes w) words) ≡ w * length words
length-words w [] = omega arith
length-words w (x ∷ xs) =
    length-append (big_bytes w x) (flat_map (big_bytes w) xs)
    ∙ omega (arith, length-big_bytes w x, length-words w xs, mul-suc w (length xs))
