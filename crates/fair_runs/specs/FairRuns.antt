-- The laws: the mean of every observable of all slots and both replicas, and so the probability of every event, before and
-- after decisions whose draws are independent and equally likely.
use Rattle.std.specs.Prelude.{◌≡◌, ℕ, ◌+◌, ◌*◌, ◌^◌, ◌<◌, ◌≤◌, Bool, List, [], ◌∷◌, length, All}
use Rattle.finite_chance.specs.Sums.{sum_to}
use Rattle.finite_chance.specs.Chains.{AreNear, after}
use Rattle.spin_model.specs.Words.{one_if}
use Rattle.spin_model.specs.Lattice.{IsLawfulSize, volume}
use Rattle.spin_model.specs.SiteRule.{Metropolis}
use Rattle.threshold_table.specs.Tables.{rule_of}
use Rattle.scalar_rule.specs.Sweep.{Dynamics}
use Rattle.scalar_rule.specs.Plan.{Plan, slots_of}
use Rattle.run_decisions.specs.Decisions.{Decision, IsDecisionOf, decide, run_decisions, measured_decisions}
use Rattle.model_laws.specs.Balance.{updated_by}
use Rattle.model_laws.specs.Stationary.{AreThresholds, after_update}
use Rattle.fair_runs.specs.Equilibrium.{over_configurations, over_states, BelongTo, partition, over_draws, total, total_after}

-- k decisions change the mean of an observable from 0 to m by at most m (r / s) k / 2 ^ 32, whatever they are and in what order.
-- (The two sides are the means times s times 2 ^ 32 times the number of lists of draws times the partition sum.)
abbrev pub EquilibriumNearlyStays : Type 0
EquilibriumNearlyStays = (r s : ℕ) (a b : ℕ → ℕ) (plan : Plan) (bit : ℕ) (decisions : List Decision) (g : List (List Bool) → ℕ) (m : ℕ)
    → IsLawfulSize plan.size → BelongTo r s a b plan → All (IsDecisionOf plan) decisions → ((x : List (List Bool)) → g x ≤ m)
    → AreNear (length decisions * r * (2 ^ 32) ^ length decisions * m * partition a b plan bit)
    (s * (2 ^ 32 * total_after a b plan bit decisions g))
    (s * (2 ^ 32 * ((2 ^ 32) ^ length decisions * total a b plan bit g)))

-- with exact thresholds and entries every mean stays
abbrev pub EquilibriumStays : Type 0
EquilibriumStays = (a b : ℕ → ℕ) (plan : Plan) (bit : ℕ) (decisions : List Decision) (g : List (List Bool) → ℕ) (m : ℕ)
    → IsLawfulSize plan.size → BelongTo 0 1 a b plan → All (IsDecisionOf plan) decisions → ((x : List (List Bool)) → g x ≤ m)
    → total_after a b plan bit decisions g ≡ (2 ^ 32) ^ length decisions * total a b plan bit g

-- so n epochs of a run that begins in equilibrium, with ideal draws, leave the probability of every event within
-- (number of decisions) (r / s) / 2 ^ 32 of what it is in equilibrium: the distance in total variation
abbrev pub RunsStayNearEquilibrium : Type 0
RunsStayNearEquilibrium = (r s : ℕ) (a b : ℕ → ℕ) (plan : Plan) (bit start n : ℕ) (event : List (List Bool) → Bool)
    → IsLawfulSize plan.size → BelongTo r s a b plan
    → AreNear (length (run_decisions plan start n) * r * (2 ^ 32) ^ length (run_decisions plan start n) * partition a b plan bit)
    (s * (2 ^ 32 * total_after a b plan bit (run_decisions plan start n) (λ x. one_if (event x))))
    (s * (2 ^ 32 * ((2 ^ 32) ^ length (run_decisions plan start n) * total a b plan bit (λ x. one_if (event x)))))

-- and so of every event of what is measured after the sweeps of the next epoch
abbrev pub MeasuredNearEquilibrium : Type 0
MeasuredNearEquilibrium = (r s : ℕ) (a b : ℕ → ℕ) (plan : Plan) (bit start n : ℕ) (event : List (List Bool) → Bool)
    → IsLawfulSize plan.size → BelongTo r s a b plan
    → AreNear (length (measured_decisions plan start n) * r * (2 ^ 32) ^ length (measured_decisions plan start n) * partition a b plan bit)
    (s * (2 ^ 32 * total_after a b plan bit (measured_decisions plan start n) (λ x. one_if (event x))))
    (s * (2 ^ 32 * ((2 ^ 32) ^ length (measured_decisions plan start n) * total a b plan bit (λ x. one_if (event x)))))

-- ---- from any start

-- weights of the states that differ from Boltzmann's by at most e parts of q of the partition sum, in the mean of every
-- observable
abbrev pub IsClose : ℕ → ℕ → (ℕ → ℕ) → (ℕ → ℕ) → Plan → ℕ → (List (List Bool) → ℕ) → Type 0
IsClose e q a b plan bit start = (h : List (List Bool) → ℕ) (m : ℕ) → ((x : List (List Bool)) → h x ≤ m)
    → AreNear (e * m * partition a b plan bit) (q * over_states plan (λ x. start x * h x)) (q * total a b plan bit h)

-- the distance from equilibrium, from whatever weights a run starts, never grows by more than that
abbrev pub DistanceHardlyGrows : Type 0
DistanceHardlyGrows = (r s e q : ℕ) (a b : ℕ → ℕ) (plan : Plan) (bit : ℕ) (start : List (List Bool) → ℕ) (decisions : List Decision) (g : List (List Bool) → ℕ) (m : ℕ)
    → IsLawfulSize plan.size → BelongTo r s a b plan → All (IsDecisionOf plan) decisions → IsClose e q a b plan bit start → ((x : List (List Bool)) → g x ≤ m)
    → AreNear ((2 ^ 32 * (s * e) + q * (length decisions * r)) * ((2 ^ 32) ^ length decisions * (m * partition a b plan bit)))
    (2 ^ 32 * (s * (q * over_states plan (λ x. start x * over_draws (length decisions) (λ draws. g (after (decide plan bit) decisions draws x))))))
    (2 ^ 32 * (s * (q * ((2 ^ 32) ^ length decisions * total a b plan bit g))))

-- ---- that these speak of something

-- where no temperature is 0, every weight and so their sum is above 0
abbrev pub PartitionIsPositive : Type 0
PartitionIsPositive = (a b : ℕ → ℕ) (plan : Plan) (bit : ℕ) → ((t : ℕ) → t < slots_of plan → (0 < a t) × (0 < b t)) → 0 < partition a b plan bit

-- exact Metropolis thresholds for exp(-4 beta) = j / 1024
abbrev pub MetropolisGridIsExact : Type 0
MetropolisGridIsExact = (j : ℕ) → j ≤ 1024 → AreThresholds 0 1 j 1024 Metropolis (j * 2 ^ 22 ∷ j * j * 2 ^ 12 ∷ j * j * j * 2 ^ 2 ∷ [])

-- so a plan of one slot with such a table is exact at that temperature
abbrev pub OneSlotIsExact : Type 0
OneSlotIsExact = (j : ℕ) (plan : Plan) → j ≤ 1024 → rule_of plan.rules.kind ≡ Metropolis → plan.rules.rows ≡ (j * 2 ^ 22 ∷ j * j * 2 ^ 12 ∷ j * j * j * 2 ^ 2 ∷ []) ∷ []
    → BelongTo 0 1 (λ t. j) (λ t. 1024) plan

-- ---- one update, as model_laws has it

-- its weights after an update are what comes of weights by all draws
abbrev pub AfterUpdateIsPushForward : Type 0
AfterUpdateIsPushForward = (d : Dynamics) (i : ℕ) (weights h : List Bool → ℕ) → i < volume d.size
    → over_configurations (volume d.size) (λ s. weights s * sum_to (2 ^ 32) (λ u. h (updated_by d s i u)))
    ≡ over_configurations (volume d.size) (λ s. after_update d i weights s * h s)
