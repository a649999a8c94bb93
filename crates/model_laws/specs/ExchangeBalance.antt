-- Detailed balance of the exchange of two neighbouring temperatures, by counting draws. The state of a pair is the
-- configuration of the colder slot and that of the hotter, each weighted at its slot's own temperature.
use Rattle.std.specs.Prelude.{◌≡◌, ℕ, ◌+◌, ◌-◌, ◌*◌, ◌/◌, ◌^◌, ◌<◌, ◌≤◌, max, Bool, List}
use Rattle.finite_chance.specs.Chains.{AreNear}
use Rattle.spin_model.specs.Couplings.{Bonds}
use Rattle.spin_model.specs.Lattice.{IsLawfulSize}
use Rattle.spin_model.specs.Steps.{count_below}
use Rattle.threshold_table.specs.Tables.{swap_threshold}
use Rattle.scalar_rule.specs.Exchange.{is_swapped}
use Rattle.scalar_rule.specs.Sums.{unsatisfied}
use Rattle.model_laws.specs.Weights.{weight}

-- of the 2 ^ 32 draws, how many swap the slots of a pair, by the unsatisfied bonds of the colder and of the hotter
abbrev pub swapping_draws : List (List ℕ) → ℕ → ℕ → ℕ → ℕ
swapping_draws table pair cold hot = count_below (λ u. is_swapped table pair u cold hot) (2 ^ 32)

-- every draw, where the colder slot has as many as the hotter or more; else as many draws as the entry of the gap says
abbrev pub SwappingDraws : Type 0
SwappingDraws = (table : List (List ℕ)) (pair cold hot : ℕ)
    → (hot ≤ cold → swapping_draws table pair cold hot ≡ 2 ^ 32)
    × (cold < hot → swap_threshold table pair ((hot - cold - 1) / 2) ≤ 2 ^ 32
    → swapping_draws table pair cold hot ≡ swap_threshold table pair ((hot - cold - 1) / 2))

-- the entry of a pair for a gap of 2 m unsatisfied bonds is 2 ^ 32 exp(-4 m (beta of the colder - beta of the hotter)), to
-- within r / s; a / b = exp(-4 beta) of the colder slot, c / d that of the hotter
pub record IsSwapEntry (r s a b c d : ℕ) (table : List (List ℕ)) (pair m : ℕ) : Type 0 where
  pub limited : swap_threshold table pair (m - 1) ≤ 2 ^ 32
  pub near : AreNear (r * (b * c) ^ m) (s * (swap_threshold table pair (m - 1) * (b * c) ^ m)) (s * (2 ^ 32 * (a * d) ^ m))

-- the weight of a pair's state
abbrev pub pair_weight : ℕ → ℕ → ℕ → ℕ → ℕ → Bonds → List Bool → List Bool → ℕ
pair_weight a b c d l bonds cold hot = weight a b l bonds cold * weight c d l bonds hot

-- the draws that swap the two configurations
abbrev pub pair_draws : List (List ℕ) → ℕ → ℕ → Bonds → List Bool → List Bool → ℕ
pair_draws table pair l bonds cold hot = swapping_draws table pair (unsatisfied l bonds cold) (unsatisfied l bonds hot)

-- half the difference of two numbers, whichever is more; and that of the unsatisfied bonds of two configurations
abbrev pub half_difference : ℕ → ℕ → ℕ
half_difference u v = (u - v + (v - u)) / 2

abbrev pub half_gap : ℕ → Bonds → List Bool → List Bool → ℕ
half_gap l bonds x y = half_difference (unsatisfied l bonds x) (unsatisfied l bonds y)

-- the draws that swap two configurations times the weight of their state are those that swap them back times the weight
-- of the other state, to within the rounding of the entry times the greater weight
abbrev pub ExchangeBalances : Type 0
ExchangeBalances = (r s a b c d l : ℕ) (bonds : Bonds) (x y : List Bool) (table : List (List ℕ)) (pair : ℕ) → IsLawfulSize l
    → (1 ≤ half_gap l bonds x y → IsSwapEntry r s a b c d table pair (half_gap l bonds x y))
    → AreNear (r * max (pair_weight a b c d l bonds x y) (pair_weight a b c d l bonds y x))
    (s * (pair_draws table pair l bonds x y * pair_weight a b c d l bonds x y)) (s * (pair_draws table pair l bonds y x * pair_weight a b c d l bonds y x))

-- with an exact entry they are equal
abbrev pub ExactEntriesBalance : Type 0
ExactEntriesBalance = (a b c d l : ℕ) (bonds : Bonds) (x y : List Bool) (table : List (List ℕ)) (pair : ℕ) → IsLawfulSize l
    → (1 ≤ half_gap l bonds x y → IsSwapEntry 0 1 a b c d table pair (half_gap l bonds x y))
    → pair_draws table pair l bonds x y * pair_weight a b c d l bonds x y ≡ pair_draws table pair l bonds y x * pair_weight a b c d l bonds y x
