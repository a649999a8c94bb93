-- The colours of 64 disorder samples in two words a site: bit b of the first word is the low bit of the colour of sample
-- b, and bit b of the second word its high bit.
use Rattle.std.specs.Prelude.{ℕ, ◌+◌, ◌*◌, List, [], slice_index, slice_index_or}
use Rattle.std.specs.Int.{bit_at}
use Rattle.spin_model.specs.Lattice.{volume}
use Rattle.spin_model.specs.Steps.{table}
use Rattle.spin_model.specs.Words.{is_set}
use Rattle.potts_glass.specs.Potts.{Surroundings}

-- the colour of sample b in the two words of a site
abbrev pub colour_in : List ℕ → ℕ → ℕ
colour_in site b = bit_at (slice_index site 0) b + 2 * bit_at (slice_index site 1) b

-- what sample b sees of six neighbours: bit b of the words of J is set where J is -1
abbrev pub seen : List (List ℕ) → List ℕ → ℕ → Surroundings
seen near negative b = record {
  colour = λ k. colour_in (slice_index_or near k []) b;
  negative = λ k. is_set (slice_index negative k) b;
}

-- the colours of sample b at all sites
unfoldable pub colours_of : ℕ → List (List ℕ) → ℕ → List ℕ
colours_of l sites b = table (λ i. colour_in (slice_index_or sites i []) b) (volume l)
