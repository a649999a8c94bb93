-- Colours, counts and gaps by the bits of a sample.
use Rattle.std.proofs.Common.{◌≡◌, ℕ, ◌+◌, ◌*◌, ◌≤◌, List, get_or, refl, arith}
use Rattle.multispin_word.specs.Planes.{one_if, is_set}
use Rattle.multispin_word.proofs.Bits.{one_if-is_set}
use Rattle.spin_model.specs.Steps.{count_below}
use Rattle.spin_model.proofs.Counts.{one_if-most}
use Rattle.potts_glass.specs.Potts.{Surroundings, favours, votes}
use Rattle.potts_glass.specs.PackedColours.{colour_in}

-- a colour by its two bits as truth values
pub colour-by_bits : (site : List ℕ) (b : ℕ) → colour_in site b ≡ one_if (is_set (get_or site 0 0) b) + 2 * one_if (is_set (get_or site 1 0) b)
colour-by_bits site b = rw (one_if-is_set (get_or site 0 0) b, one_if-is_set (get_or site 1 0) b) refl

-- there are at most six votes
pub votes-most : (around : Surroundings) (c other : ℕ) → votes around c other ≤ 6
unfolding count_below
votes-most around c other =
    let t = favours around c other in
    omega (arith, one_if-most (t 0), one_if-most (t 1), one_if-most (t 2), one_if-most (t 3), one_if-most (t 4), one_if-most (t 5))

-- the counts of six neighbours by what each of them is worth
pub votes-by_six : (around : Surroundings) (c other u v w x y z : ℕ)
    → u + one_if (favours around c other 0) ≡ 1 + one_if (favours around other c 0)
    → v + one_if (favours around c other 1) ≡ 1 + one_if (favours around other c 1)
    → w + one_if (favours around c other 2) ≡ 1 + one_if (favours around other c 2)
    → x + one_if (favours around c other 3) ≡ 1 + one_if (favours around other c 3)
    → y + one_if (favours around c other 4) ≡ 1 + one_if (favours around other c 4)
    → z + one_if (favours around c other 5) ≡ 1 + one_if (favours around other c 5)
    → votes around c other + (u + v + w + (x + y + z)) ≡ 6 + votes around other c
unfolding count_below
votes-by_six around c other u v w x y z e f g h i j = omega arith
