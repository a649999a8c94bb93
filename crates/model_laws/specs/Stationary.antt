-- Boltzmann's distribution under updates whose draws are independent and equally likely.
use Rattle.std.specs.Prelude.{◌≡◌, ℕ, ◌+◌, ◌-◌, ◌*◌, ◌^◌, ◌<◌, ◌≤◌, min, Bool, List, [], ◌∷◌, length, All}
use Rattle.spin_model.specs.Lattice.{IsLawfulSize, volume}
use Rattle.spin_model.specs.SiteRule.{Rule, HeatBath, Metropolis}
use Rattle.scalar_rule.specs.Sweep.{Dynamics}
use Rattle.model_laws.specs.Energies.{turned}
use Rattle.model_laws.specs.Balance.{turning_draws, keeping_draws, weight_of, IsMetropolisThreshold, IsHeatBathThreshold}

-- from weights of the configurations before an update of site i, those after it, with each of the 2 ^ 32 draws counted: a
-- configuration comes from that with the spin turned, by the draws that turn it back, and from itself, by those that keep it
abbrev pub after_update : Dynamics → ℕ → (List Bool → ℕ) → List Bool → ℕ
after_update d i weights spins =
    turning_draws d (turned spins i) i * weights (turned spins i) + keeping_draws d spins i * weights spins

-- after updates of the sites of a list, its first one first
unfoldable pub after_updates : Dynamics → List ℕ → (List Bool → ℕ) → List Bool → ℕ
after_updates d [] weights = weights
after_updates d (i ∷ sites) weights = after_updates d sites (after_update d i weights)

-- every threshold of the rule belongs to a / b, to within r / s
abbrev pub AreThresholds : ℕ → ℕ → ℕ → ℕ → Rule → List ℕ → Type 0
AreThresholds r s a b HeatBath thresholds = (j : ℕ) → j ≤ 6 → IsHeatBathThreshold r s a b thresholds j
AreThresholds r s a b Metropolis thresholds = (k : ℕ) → 4 ≤ k → k ≤ 6 → IsMetropolisThreshold r s a b thresholds k

-- with exact thresholds Boltzmann's weights stay, but for the number of draws, under any updates: of one site, of a half
-- sweep, of sweeps
abbrev pub BoltzmannStays : Type 0
BoltzmannStays = (a b : ℕ) (d : Dynamics) (sites : List ℕ) (spins : List Bool) → IsLawfulSize d.size → length spins ≡ volume d.size
    → All (λ i. i < volume d.size) sites → AreThresholds 0 1 a b d.rule d.thresholds
    → after_updates d sites (weight_of a b d) spins ≡ (2 ^ 32) ^ length sites * weight_of a b d spins

-- with rounded thresholds each update changes them by at most q parts of 2 ^ 32, where q is r times the sum of the weights
-- of a spin and its opposite over the lesser of them
abbrev pub BoltzmannNearlyStays : Type 0
BoltzmannNearlyStays = (r q a b : ℕ) (d : Dynamics) (sites : List ℕ) (spins : List Bool) → IsLawfulSize d.size → length spins ≡ volume d.size
    → All (λ i. i < volume d.size) sites → AreThresholds r 1 a b d.rule d.thresholds
    → ((m : ℕ) → m ≤ 3 → r * (a ^ m + b ^ m) ≤ q * min (a ^ m) (b ^ m))
    → ((2 ^ 32 - q) ^ length sites * weight_of a b d spins ≤ after_updates d sites (weight_of a b d) spins)
    × (after_updates d sites (weight_of a b d) spins ≤ (2 ^ 32 + q) ^ length sites * weight_of a b d spins)
