-- Equilibrium: sums over all states, the weight of a state, the tables that belong to temperatures, and the means of an
-- observable of all slots and both replicas before and after decisions by independent, equally likely draws.
use Rattle.std.specs.Prelude.{ℕ, zero, suc, ◌+◌, ◌*◌, ◌^◌, ◌<◌, ◌≤◌, Bool, List, length}
use Rattle.finite_chance.specs.Sums.{sum_to, over_spin, sum_lists}
use Rattle.finite_chance.specs.Chains.{after}
use Rattle.spin_model.specs.Lattice.{volume, bond_count}
use Rattle.threshold_table.specs.Tables.{rule_of, thresholds_of}
use Rattle.coupling_set.specs.CouplingWords.{bonds_of}
use Rattle.scalar_rule.specs.Plan.{Plan, slots_of}
use Rattle.run_decisions.specs.Decisions.{Decision, slot_of, places_of, spins_at, decide}
use Rattle.model_laws.specs.Weights.{weight}
use Rattle.model_laws.specs.Stationary.{AreThresholds}
use Rattle.model_laws.specs.ExchangeBalance.{IsSwapEntry}

-- ---- sums

-- over all configurations of v spins, and over all states: a configuration for each place
abbrev pub over_configurations : ℕ → (List Bool → ℕ) → ℕ
over_configurations v f = sum_lists over_spin v f

abbrev pub over_states : Plan → (List (List Bool) → ℕ) → ℕ
over_states plan f = sum_lists (over_configurations (volume plan.size)) (places_of plan) f

-- factor 0 times factor 1 times .. factor (n - 1)
unfoldable pub product_to : ℕ → (ℕ → ℕ) → ℕ
product_to zero factor = 1
product_to (suc n) factor = product_to n factor * factor n

-- the weight of a state of n places: the product of the weights of their configurations, each by its own place
abbrev pub state_weight : ℕ → (ℕ → List Bool → ℕ) → List (List Bool) → ℕ
state_weight n weights state = product_to n (λ p. weights p (spins_at state p))

-- ---- the temperatures of a plan

-- slot t has a t / b t = exp(-4 beta of slot t): the thresholds of every slot are those of its temperature, and the entries of
-- every pair those of its two temperatures, for each gap that there can be, all to within r / s of 2 ^ 32 draws: 1 / 2 where they
-- are rounded to the nearest
pub record BelongTo (r s : ℕ) (a b : ℕ → ℕ) (plan : Plan) : Type 0 where
  pub rules : (t : ℕ) → t < slots_of plan → AreThresholds r s (a t) (b t) (rule_of plan.rules.kind) (thresholds_of plan.rules t)
  pub swaps : (k m : ℕ) → k + 1 < slots_of plan → 1 ≤ m → 2 * m ≤ bond_count plan.size → IsSwapEntry r s (a k) (b k) (a (k + 1)) (b (k + 1)) plan.swaps k m

-- ---- means

-- the Boltzmann weight of a state: the product over all places of the weight of the place's configuration at its slot's
-- temperature
abbrev pub boltzmann : (ℕ → ℕ) → (ℕ → ℕ) → Plan → ℕ → List (List Bool) → ℕ
boltzmann a b plan bit = state_weight (places_of plan) (λ p spins. weight (a (slot_of plan p)) (b (slot_of plan p)) plan.size (bonds_of plan.couplings bit) spins)

-- the sum of all weights
abbrev pub partition : (ℕ → ℕ) → (ℕ → ℕ) → Plan → ℕ → ℕ
partition a b plan bit = over_states plan (boltzmann a b plan bit)

-- over all lists of k draws of 32 bits
abbrev pub over_draws : ℕ → (List ℕ → ℕ) → ℕ
over_draws k f = sum_lists (sum_to (2 ^ 32)) k f

-- the sum of an observable g over all states, each by its weight: the mean in equilibrium, times the partition sum
abbrev pub total : (ℕ → ℕ) → (ℕ → ℕ) → Plan → ℕ → (List (List Bool) → ℕ) → ℕ
total a b plan bit g = over_states plan (λ x. boltzmann a b plan bit x * g x)

-- the same once decisions are made, over all lists of draws too: the mean after them, times the partition sum and
-- (2 ^ 32) ^ the number of decisions
abbrev pub total_after : (ℕ → ℕ) → (ℕ → ℕ) → Plan → ℕ → List Decision → (List (List Bool) → ℕ) → ℕ
total_after a b plan bit decisions g =
    over_states plan (λ x. boltzmann a b plan bit x * over_draws (length decisions) (λ draws. g (after (decide plan bit) decisions draws x)))
