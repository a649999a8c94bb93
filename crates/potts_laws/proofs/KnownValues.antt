-- Values of the words worked by hand, computed from the definitions alone.
use Rattle.std.proofs.Common.{◌≡◌, ℕ, ◌+◌, ◌*◌, ◌^◌, Bool, true, false, List, get_or, [], ◌∷◌, refl, arith}
use Rattle.spin_model.specs.Lattice.{forward, backward}
use Rattle.spin_model.specs.Steps.{count_below, table}
use Rattle.potts_glass.specs.Potts.{Dynamics, visit}
use Rattle.potts_laws.specs.Changes.{changed, updated_by}
use Rattle.potts_laws.specs.Weights.{height, weight, IsThreshold}
use Rattle.potts_laws.specs.Equilibrium.{over_configurations, update_by, sweeps_sites}
use Rattle.finite_chance.specs.Sums.{sum_lists}

-- eight sites of colour 0, and the same with colour 1 at the first
abbrev even_colours : List ℕ
even_colours = 0 ∷ 0 ∷ 0 ∷ 0 ∷ 0 ∷ 0 ∷ 0 ∷ 0 ∷ []

one-changed : changed even_colours 0 1 ≡ 1 ∷ 0 ∷ 0 ∷ 0 ∷ 0 ∷ 0 ∷ 0 ∷ 0 ∷ []
one-changed = refl

-- with J = +1 their 24 bonds lower the energy to the least that there is; six of them don't once a site has changed
least : height 2 (λ n. false) even_colours ≡ 0
unfolding count_below forward
least = refl

six-higher : height 2 (λ n. false) (changed even_colours 0 1) ≡ 6
unfolding count_below forward
six-higher = refl

six-more_factors : weight 2 3 2 (λ n. false) (changed even_colours 0 1) ≡ 2 ^ 6 * 3 ^ 42
unfolding count_below forward
six-more_factors = refl

-- with J = -1 they raise it to the greatest
greatest : height 2 (λ n. true) even_colours ≡ 48
unfolding count_below forward
greatest = refl

-- the step of the draw 2 ^ 32 - 1 leads from colour 0 to 3: for nothing where J = -1, and by a second draw below the
-- threshold for the gap 6 where J = +1
abbrev dynamics : Bool → Dynamics
dynamics sign = record { size = 2; thresholds = 0 ∷ 0 ∷ 0 ∷ 0 ∷ 0 ∷ 100 ∷ []; bonds = λ n. sign }

free : updated_by (dynamics true) even_colours 0 4294967295 100 ≡ 3 ∷ 0 ∷ 0 ∷ 0 ∷ 0 ∷ 0 ∷ 0 ∷ 0 ∷ []
unfolding count_below forward backward visit
free = refl

made : updated_by (dynamics false) even_colours 0 4294967295 99 ≡ 3 ∷ 0 ∷ 0 ∷ 0 ∷ 0 ∷ 0 ∷ 0 ∷ 0 ∷ []
unfolding count_below forward backward visit
made = refl

kept : updated_by (dynamics false) even_colours 0 4294967295 100 ≡ even_colours
unfolding count_below forward backward visit
kept = refl

-- at exp(-beta) = 1 / 2 the gap 1 has an exact threshold
exact : IsThreshold 0 1 1 2 (2147483648 ∷ []) 1
exact = record { limited = omega arith; near = record { above = omega arith; below = omega arith } }

-- the pair of draws of `made` as one number
made-by_number : update_by (dynamics false) 0 (4294967295 * 2 ^ 32 + 99) even_colours ≡ 3 ∷ 0 ∷ 0 ∷ 0 ∷ 0 ∷ 0 ∷ 0 ∷ 0 ∷ []
unfolding count_below forward backward visit
made-by_number = refl

-- two sites have 16 configurations; the first one's colours are 4 (0 + 1 + 2 + 3) together
sixteen : over_configurations 2 (λ x. 1) ≡ 16
unfolding sum_lists
sixteen = refl

first-colours : over_configurations 2 (λ x. get_or x 0 0) ≡ 24
unfolding sum_lists
first-colours = refl

-- the sites of even x + y + z, and then the others
one-sweep : sweeps_sites 2 1 ≡ 0 ∷ 3 ∷ 5 ∷ 6 ∷ 1 ∷ 2 ∷ 4 ∷ 7 ∷ []
unfolding sweeps_sites table
one-sweep = refl
