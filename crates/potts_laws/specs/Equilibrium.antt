-- Equilibrium of one sample: sums over all configurations of four colours, and the means of an observable before and after updates
-- by independent, equally likely draws.
use Rattle.std.specs.Prelude.{ℕ, zero, suc, ◌+◌, ◌*◌, ◌/◌, ◌%◌, ◌^◌, List, [], ◌++◌}
use Rattle.finite_chance.specs.Sums.{sum_lists}
use Rattle.finite_chance.specs.Chains.{outcomes}
use Rattle.spin_model.specs.Lattice.{volume}
use Rattle.run_decisions.specs.Decisions.{sites_of}
use Rattle.potts_glass.specs.Potts.{Dynamics}
use Rattle.potts_laws.specs.Changes.{updated_by}
use Rattle.potts_laws.specs.Weights.{weight_of}

-- over the four colours of a site
abbrev pub over_colour : (ℕ → ℕ) → ℕ
over_colour f = f 0 + f 1 + f 2 + f 3

-- over all configurations of v sites
abbrev pub over_configurations : ℕ → (List ℕ → ℕ) → ℕ
over_configurations v f = sum_lists over_colour v f

-- the configuration once site i is updated by a pair of draws, which is one number w below 2 ^ 64: u = w div 2 ^ 32, v = w mod 2 ^ 32
abbrev pub update_by : Dynamics → ℕ → ℕ → List ℕ → List ℕ
update_by d i w colours = updated_by d colours i (w / 2 ^ 32) (w % 2 ^ 32)

-- the pair of draws of a site as one number
abbrev pub pair_of : (ℕ → ℕ → ℕ) → ℕ → ℕ
pair_of draw_at i = draw_at i 0 * 2 ^ 32 + draw_at i 1

-- the sum of all weights
abbrev pub partition : ℕ → ℕ → Dynamics → ℕ
partition a b d = over_configurations (volume d.size) (weight_of a b d)

-- the sum of an observable g over all configurations, each by its weight: the mean in equilibrium, times the partition sum
abbrev pub total : ℕ → ℕ → Dynamics → (List ℕ → ℕ) → ℕ
total a b d g = over_configurations (volume d.size) (λ x. weight_of a b d x * g x)

-- the same once sites are updated, the first one first, over all lists of pairs of draws too: the mean after the updates, times
-- the partition sum and (2 ^ 64) ^ the number of updates
abbrev pub total_after : ℕ → ℕ → Dynamics → List ℕ → (List ℕ → ℕ) → ℕ
total_after a b d sites g = over_configurations (volume d.size) (λ x. weight_of a b d x * outcomes (update_by d) (2 ^ 64) sites g x)

-- the sites of n sweeps in the order of their updates: those of class 0 in rising order, then those of class 1, n times
unfoldable pub sweeps_sites : ℕ → ℕ → List ℕ
sweeps_sites l zero = []
sweeps_sites l (suc n) = (sites_of l 0 ++ sites_of l 1) ++ sweeps_sites l n
