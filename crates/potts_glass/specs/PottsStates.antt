-- What contracts see of a Potts glass of 64 disorder samples; its start and its sweeps, one sample at a time.
use Rattle.std.specs.Prelude.{ℕ, ◌+◌, ◌*◌, ◌/◌, ◌%◌, ℤ, List, [], slice_index_or}
use Rattle.std.specs.Int.{bit_at}
use Rattle.spin_model.specs.Lattice.{volume}
use Rattle.spin_model.specs.Seeding.{potts_sweep_words, potts_start_words}
use Rattle.spin_model.specs.Steps.{steps, table}
use Rattle.spin_model.specs.Stream.{draw}
use Rattle.coupling_set.specs.CouplingWords.{CouplingsView, bonds_of}
use Rattle.potts_glass.specs.Potts.{Dynamics, half_sweep, sweep, plane_drawn, energy}
use Rattle.potts_glass.specs.declared.start.PottsStart.{PottsStart}
use Rattle.potts_glass.specs.declared.start.PottsStart.TheVariants.{Zero, Random}

-- the couplings, the colours of each of 64 samples in the order of the sites, and the words of the generators: list
-- class L + z serves the sites of that class in plane z, in all samples
pub record PottsView : Type 0 where
  pub couplings : CouplingsView
  pub states : List (List ℕ)
  pub words : List (List ℕ)

-- the colours of sample b
abbrev pub state_of : PottsView → ℕ → List ℕ
state_of potts b = slice_index_or potts.states b []

-- ---- the start

-- the random colour of sample b at site i: its low bit is bit b mod 32 of draw 4i + b div 32, its high bit that of draw
-- 4i + 2 + b div 32
abbrev pub random_colour : List ℕ → ℕ → ℕ → ℕ
random_colour words b i =
    bit_at (draw words (4 * i + b / 32)) (b % 32) + 2 * bit_at (draw words (4 * i + 2 + b / 32)) (b % 32)

-- the colours of sample b at the start
unfoldable pub start_colours : ℕ → PottsStart → ℕ → ℕ → List ℕ
start_colours l Zero seed b = table (λ i. 0) (volume l)
start_colours l Random seed b = table (random_colour (potts_start_words seed) b) (volume l)

-- the words of the generators at the start, each as its label seeds it
abbrev pub seeded_words : ℕ → ℕ → List (List ℕ)
seeded_words l seed = table (λ k. potts_sweep_words seed (k / l) (k % l)) (2 * l)

-- the glass at the start
abbrev pub opened : CouplingsView → ℕ → PottsStart → PottsView
opened couplings seed start = record {
  couplings = couplings;
  states = table (start_colours couplings.size start seed) 64;
  words = seeded_words couplings.size seed;
}

-- ---- sweeps and energies

-- what the sweeps of sample b depend on, on a lattice of side l and on that of the couplings
abbrev pub dynamics_on : ℕ → CouplingsView → List ℕ → ℕ → Dynamics
dynamics_on l couplings thresholds b = record { size = l; thresholds = thresholds; bonds = bonds_of couplings b }

abbrev pub dynamics_of : CouplingsView → List ℕ → ℕ → Dynamics
dynamics_of couplings thresholds b = dynamics_on couplings.size couplings thresholds b

-- the colours of sample b after a sweep
abbrev pub state_swept : List ℕ → PottsView → ℕ → List ℕ
state_swept thresholds potts b =
    (sweep (dynamics_of potts.couplings thresholds b) (record { colours = state_of potts b; words = potts.words })).colours

-- the words after a half sweep of a class, and after a sweep: they are those of each sample's
abbrev pub words_half_swept : ℕ → ℕ → List (List ℕ) → List (List ℕ)
words_half_swept l c words = steps (plane_drawn l c) 0 l words

abbrev pub words_swept : ℕ → List (List ℕ) → List (List ℕ)
words_swept l words = words_half_swept l 1 (words_half_swept l 0 words)

-- the glass after a half sweep of a class
abbrev pub half_swept : List ℕ → ℕ → PottsView → PottsView
half_swept thresholds c potts = record {
  couplings = potts.couplings;
  states = table (λ b. (half_sweep (dynamics_of potts.couplings thresholds b) c (record { colours = state_of potts b; words = potts.words })).colours) 64;
  words = words_half_swept potts.couplings.size c potts.words;
}

-- the glass after a sweep
abbrev pub swept : List ℕ → PottsView → PottsView
swept thresholds potts = record {
  couplings = potts.couplings;
  states = table (state_swept thresholds potts) 64;
  words = words_swept potts.couplings.size potts.words;
}

-- the energy of sample b
abbrev pub energy_of : PottsView → ℕ → ℤ
energy_of potts b = energy potts.couplings.size (bonds_of potts.couplings b) (state_of potts b)
