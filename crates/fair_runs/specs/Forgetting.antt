-- Heat bath forgets its start.
use Rattle.std.specs.Prelude.{◌≡◌, ℕ, ◌-◌, ◌*◌, ◌^◌, ◌<◌, ◌≤◌, Bool, List, length, slice_index, All}
use Rattle.spin_model.specs.Lattice.{volume}
use Rattle.spin_model.specs.SiteRule.{HeatBath}
use Rattle.threshold_table.specs.Tables.{rule_of, thresholds_of}
use Rattle.scalar_rule.specs.Plan.{Plan, slots_of, IsLawfulPlan}
use Rattle.finite_chance.specs.Chains.{AreNear, after}
use Rattle.run_decisions.specs.Decisions.{decide, places_of, epoch_decisions, run_decisions}
use Rattle.fair_runs.specs.Equilibrium.{product_to, over_draws}

-- a configuration for each place
pub record IsStateOf (plan : Plan) (x : List (List Bool)) : Type 0 where
  pub places : length x ≡ places_of plan
  pub spins : All (λ s. length s ≡ volume plan.size) x

-- of two runs of n epochs by ideal draws, from any two states, the means of an observable differ by at most that part of its
-- greatest value: the factor 1 - 1 / (2 ^ 32) ^ (decisions of the epoch) for each epoch. (The two sides are the means times the
-- number of lists of draws.) So every start leads to the same distribution in the end
abbrev pub HeatBathForgets : Type 0
HeatBathForgets = (plan : Plan) (bit start n : ℕ) (g : List (List Bool) → ℕ) (m : ℕ) (x y : List (List Bool)) → IsLawfulPlan plan → rule_of plan.rules.kind ≡ HeatBath
    → ((t k : ℕ) → t < slots_of plan → k ≤ 6 → 0 < slice_index (thresholds_of plan.rules t) k)
    → IsStateOf plan x → IsStateOf plan y → ((z : List (List Bool)) → g z ≤ m)
    → AreNear (product_to n (λ e. (2 ^ 32) ^ length (epoch_decisions plan start e) - 1) * m)
    (over_draws (length (run_decisions plan start n)) (λ draws. g (after (decide plan bit) (run_decisions plan start n) draws x)))
    (over_draws (length (run_decisions plan start n)) (λ draws. g (after (decide plan bit) (run_decisions plan start n) draws y)))
