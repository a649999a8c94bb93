-- The update of one spin. A threshold is a whole number from 0 to 2 ^ 32 that stands for a probability times 2 ^ 32,
-- and a case happens exactly where the draw, a word of 32 bits, is below its threshold.
use Rattle.std.specs.Prelude.{ℕ, ◌-◌, Bool, not, ◌||◌, nat_lt, nat_le, if◌then◌else◌, List, slice_index}

-- the two dynamics
pub data Rule : Type 0 where
  HeatBath : Rule
  Metropolis : Rule

-- heat bath: with a of the six neighbours aligned (J times their spin is +1) the field is 2a - 6, and the new spin is
-- +1 with probability 1 / (1 + exp(-2 beta (2a - 6))); the seven thresholds stand for a = 0 to 6
abbrev pub heat_bath : List ℕ → ℕ → ℕ → Bool
heat_bath thresholds aligned draw = nat_lt draw (slice_index thresholds aligned)

-- Metropolis: with k of the six bonds satisfied a flip costs the energy 4k - 12, and it is made where that is not
-- above 0, else with probability exp(-beta (4k - 12)); the three thresholds stand for k = 4, 5, 6
abbrev pub is_flipped : List ℕ → ℕ → ℕ → Bool
is_flipped thresholds satisfied draw = nat_le satisfied 3 || nat_lt draw (slice_index thresholds (satisfied - 4))

abbrev pub metropolis : List ℕ → ℕ → ℕ → Bool → Bool
metropolis thresholds satisfied draw spin = if is_flipped thresholds satisfied draw then not spin else spin

-- the new spin of a site, true for +1, from its counts, its draw and its old spin
abbrev pub new_spin : Rule → List ℕ → ℕ → ℕ → ℕ → Bool → Bool
new_spin HeatBath thresholds aligned satisfied draw spin = heat_bath thresholds aligned draw
new_spin Metropolis thresholds aligned satisfied draw spin = metropolis thresholds satisfied draw spin
