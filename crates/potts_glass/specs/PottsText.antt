-- The report of a Potts run: lines of text, each ended by one line feed. Numbers are plain decimals.
use Rattle.std.specs.Prelude.{ℕ, ◌+◌, ℤ, List, ◌++◌, codes, decimal, flat_map, slice_index}
use Rattle.std.specs.Fmt.{signed_decimal}
use Rattle.spin_model.specs.Lattice.{volume}
use Rattle.spin_model.specs.Steps.{table}
use Rattle.potts_glass.specs.PottsStates.{PottsView, state_of, energy_of}

-- the first line names the run
unfoldable pub header_line : ℕ → ℕ → ℕ → ℕ → List ℕ
header_line size sweeps seed samples =
    codes "potts 1 size=" ++ decimal size ++ codes " sweeps=" ++ decimal sweeps ++ codes " seed=" ++ decimal seed
    ++ codes " samples=" ++ decimal samples ++ codes "\n"

-- the energy of a sample
unfoldable pub energy_line : ℕ → ℤ → List ℕ
energy_line sample energy = codes "energy," ++ decimal sample ++ codes "," ++ signed_decimal energy ++ codes "\n"

-- a colour as its digit
abbrev pub colour_digit : ℕ → ℕ
colour_digit c = 48 + c

-- the colours of a sample, one digit a site in the order of the sites
abbrev pub colour_digits : ℕ → List ℕ → List ℕ
colour_digits l colours = table (λ i. colour_digit (slice_index colours i)) (volume l)

unfoldable pub colours_head : ℕ → List ℕ
colours_head sample = codes "spin," ++ decimal sample ++ codes ","

unfoldable pub colours_line : ℕ → ℕ → List ℕ → List ℕ
colours_line l sample colours = colours_head sample ++ colour_digits l colours ++ codes "\n"

-- the two lines of a sample
abbrev pub sample_text : PottsView → ℕ → List ℕ
sample_text potts b = energy_line b (energy_of potts b) ++ colours_line potts.couplings.size b (state_of potts b)

-- those of the first so many samples
unfoldable pub samples_text : PottsView → ℕ → List ℕ
samples_text potts samples = flat_map (sample_text potts) (table (λ b. b) samples)

-- the whole report
abbrev pub potts_text : PottsView → ℕ → ℕ → ℕ → List ℕ
potts_text potts sweeps seed samples =
    header_line potts.couplings.size sweeps seed samples ++ samples_text potts samples ++ codes "end\n"
