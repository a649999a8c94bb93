-- What the spin rule reads at one site of one sample: six bits, one from each of six words, which say of the six
-- neighbours whether they are aligned, or of the six bonds whether they are satisfied
-- (docs/specification/bit_planes.md).
use Rattle.std.specs.Prelude.{ℕ, Bool, not, List, map, slice_index, count_by}
use Rattle.multispin_word.specs.Planes.{differs, is_set}

-- the six bits of sample b: its bit of each word
abbrev pub site_bits : List ℕ → ℕ → List Bool
site_bits six b = map (λ word. is_set word b) six

-- how many of them are set: the number of aligned neighbours, or of satisfied bonds
abbrev pub set_count : List ℕ → ℕ → ℕ
set_count six b = count_by (λ bit. bit) (site_bits six b)

-- how many of them are equal to the sample's bit of another word: of aligned neighbours and the spin, the number of
-- satisfied bonds
abbrev pub equal_count : List ℕ → ℕ → ℕ → ℕ
equal_count six word b = count_by (λ bit. not (differs bit (is_set word b))) (site_bits six b)

-- sites lie side by side in six rows of words: the six words of site i are word i of each row
abbrev pub lane_words : List (List ℕ) → ℕ → List ℕ
lane_words rows i = map (λ words. slice_index words i) rows
