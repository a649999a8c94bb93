-- What an update does to the colour of its site, by two draws, and how many draws there are to each change.
use Rattle.std.specs.Prelude.{ℕ, ◌==◌, ◌^◌, if◌then◌else◌, List, slice_index, slice_set}
use Rattle.finite_chance.specs.Sums.{sum_to}
use Rattle.spin_model.specs.Lattice.{colour as class}
use Rattle.spin_model.specs.Steps.{count_below}
use Rattle.potts_glass.specs.Potts.{Dynamics, step_of, proposed, visit}

-- the configuration with another colour at site i
abbrev pub changed : List ℕ → ℕ → ℕ → List ℕ
changed colours i c = slice_set colours i c

-- the configuration once site i is updated by its two draws
abbrev pub updated_by : Dynamics → List ℕ → ℕ → ℕ → ℕ → List ℕ
updated_by d colours i u v = visit d (λ _ m. if m == 0 then u else v) (class d.size i) i colours

-- how many first draws propose a colour to another
abbrev pub proposing_draws : ℕ → ℕ → ℕ
proposing_draws c other = count_below (λ u. proposed c (step_of u) == other) (2 ^ 32)

-- how many of the 2 ^ 64 pairs of draws give site i the colour c
abbrev pub leading_draws : Dynamics → List ℕ → ℕ → ℕ → ℕ
leading_draws d colours i c = sum_to (2 ^ 32) (λ u. count_below (λ v. slice_index (updated_by d colours i u v) i == c) (2 ^ 32))
