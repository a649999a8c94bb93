-- Counts of set bits over many words: four numbers of each sample side by side, in planes of four words.
use Rattle.std.specs.Prelude.{ℕ, zero, suc, ◌+◌, List, slice_index, bit_xor}
use Rattle.multispin_word.specs.Planes.{is_set, number}
use Rattle.local_rule.specs.SiteBits.{lane_words}
use Rattle.spin_model.specs.Steps.{count_below}

-- the number of sample b in lane i, whose plane w is word i of row w
abbrev pub lane_number : List (List ℕ) → ℕ → ℕ → ℕ
lane_number rows i b = number (lane_words rows i) b

-- the sum of the numbers of sample b in the first n lanes
unfoldable pub in_lanes : List (List ℕ) → ℕ → ℕ → ℕ
in_lanes rows b zero = 0
in_lanes rows b (suc n) = in_lanes rows b n + lane_number rows n b

-- and in all four
abbrev pub tallied : List (List ℕ) → ℕ → ℕ
tallied rows b = in_lanes rows b 4

-- the samples in which an odd number of three words at place j is set
abbrev pub mixed : List ℕ → List ℕ → List ℕ → ℕ → ℕ
mixed first second third j = bit_xor (bit_xor (slice_index first j) (slice_index second j)) (slice_index third j)

-- in how many of the first n words, given by their places, sample b is set
abbrev pub set_below : (ℕ → ℕ) → ℕ → ℕ → ℕ
set_below word b n = count_below (λ j. is_set (word j) b) n

-- in how many of four words sample b is set
unfoldable pub set_lanes : List ℕ → ℕ → ℕ
set_lanes words b = set_below (slice_index words) b 4
