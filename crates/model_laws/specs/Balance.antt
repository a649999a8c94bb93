-- Detailed balance by counting draws. A draw is one of 2 ^ 32 equally likely words; how many of them turn a spin, times
-- the weight of the configuration, is how many turn it back, times the weight of the other.
use Rattle.std.specs.Prelude.{◌≡◌, ℕ, ◌+◌, ◌-◌, ◌*◌, ◌^◌, ◌<◌, ◌≤◌, max, Bool, true, false, not, if◌then◌else◌, List, length, slice_index}
use Rattle.finite_chance.specs.Chains.{AreNear}
use Rattle.spin_model.specs.Lattice.{IsLawfulSize, volume, colour}
use Rattle.spin_model.specs.SiteRule.{Rule, HeatBath, Metropolis, new_spin}
use Rattle.spin_model.specs.Steps.{count_below}
use Rattle.scalar_rule.specs.Neighbours.{spin, agree, aligned, satisfied}
use Rattle.scalar_rule.specs.Sweep.{Dynamics, visit}
use Rattle.model_laws.specs.Energies.{turned}
use Rattle.model_laws.specs.Weights.{weight}

-- ---- draws

-- with a neighbours aligned and k bonds satisfied, how many draws make the spin `old` the spin `new`
abbrev pub draws_to : Rule → List ℕ → ℕ → ℕ → Bool → Bool → ℕ
draws_to rule thresholds a k old new = count_below (λ u. agree (new_spin rule thresholds a k u old) new) (2 ^ 32)

-- heat bath: H(a) draws make +1, all others -1, whatever the old spin was
abbrev pub HeatBathDraws : Type 0
HeatBathDraws = (thresholds : List ℕ) (a k : ℕ) (old : Bool) → slice_index thresholds a ≤ 2 ^ 32
    → (draws_to HeatBath thresholds a k old true ≡ slice_index thresholds a)
    × (draws_to HeatBath thresholds a k old false + slice_index thresholds a ≡ 2 ^ 32)

-- Metropolis: with up to three satisfied bonds every draw turns the spin, with more M(k) draws do, and the others keep it
abbrev pub MetropolisDraws : Type 0
MetropolisDraws = (thresholds : List ℕ) (a k : ℕ) (old : Bool)
    → (k ≤ 3 → draws_to Metropolis thresholds a k old (not old) ≡ 2 ^ 32)
    × (4 ≤ k → slice_index thresholds (k - 4) ≤ 2 ^ 32
    → (draws_to Metropolis thresholds a k old (not old) ≡ slice_index thresholds (k - 4))
    × (draws_to Metropolis thresholds a k old old + slice_index thresholds (k - 4) ≡ 2 ^ 32))

-- ---- the update of a site

-- the configuration once site i is updated by draw u
abbrev pub updated_by : Dynamics → List Bool → ℕ → ℕ → List Bool
updated_by d spins i u = visit d (λ _. u) (colour d.size i) i spins

-- draw u turns the spin
abbrev pub turns : Dynamics → List Bool → ℕ → ℕ → Bool
turns d spins i u = not (agree (spin (updated_by d spins i u) i) (spin spins i))

-- how many draws do
abbrev pub turning_draws : Dynamics → List Bool → ℕ → ℕ
turning_draws d spins i = count_below (turns d spins i) (2 ^ 32)

-- an update turns the spin of its site or changes nothing
abbrev pub UpdatesTurnOrKeep : Type 0
UpdatesTurnOrKeep = (d : Dynamics) (spins : List Bool) (i u : ℕ) → i < length spins
    → updated_by d spins i u ≡ (if turns d spins i u then turned spins i else spins)

-- ---- thresholds that belong to a temperature

-- the weight of a spin with k satisfied bonds, against the weight with 6 - k of the other: (b / a) ^ (k - 3)
abbrev pub site_weight : ℕ → ℕ → ℕ → ℕ
site_weight a b k = b ^ (k - 3) * a ^ (3 - k)

-- Metropolis: the threshold for k satisfied bonds, 4 to 6, is 2 ^ 32 (a / b) ^ (k - 3) = 2 ^ 32 exp(-beta (4 k - 12)), to
-- within r / s
pub record IsMetropolisThreshold (r s a b : ℕ) (thresholds : List ℕ) (k : ℕ) : Type 0 where
  pub limited : slice_index thresholds (k - 4) ≤ 2 ^ 32
  pub near : AreNear (r * b ^ (k - 3)) (s * (slice_index thresholds (k - 4) * b ^ (k - 3))) (s * (2 ^ 32 * a ^ (k - 3)))

-- heat bath: the threshold for j aligned neighbours is 2 ^ 32 / (1 + (a / b) ^ (j - 3)) = 2 ^ 32 / (1 + exp(-2 beta (2 j - 6))),
-- to within r / s; with j aligned neighbours +1 has j satisfied bonds and -1 has 6 - j
pub record IsHeatBathThreshold (r s a b : ℕ) (thresholds : List ℕ) (j : ℕ) : Type 0 where
  pub limited : slice_index thresholds j ≤ 2 ^ 32
  pub near : AreNear (r * (site_weight a b j + site_weight a b (6 - j)))
      (s * (slice_index thresholds j * (site_weight a b j + site_weight a b (6 - j)))) (s * (2 ^ 32 * site_weight a b j))

-- ---- detailed balance

abbrev pub weight_of : ℕ → ℕ → Dynamics → List Bool → ℕ
weight_of a b d spins = weight a b d.size d.bonds spins

-- the draws that turn the spin at site i times the weight of the configuration are those that turn it back times the
-- weight of the other configuration, to within r / s
abbrev pub Balances : ℕ → ℕ → ℕ → ℕ → Dynamics → List Bool → ℕ → Type 0
Balances r s a b d spins i = AreNear r
    (s * (turning_draws d spins i * weight_of a b d spins))
    (s * (turning_draws d (turned spins i) i * weight_of a b d (turned spins i)))

-- the satisfied bonds of the site with its spin or with the other, whichever are more; if 3, then both, and no threshold
-- decides in Metropolis
abbrev pub more_satisfied : Dynamics → List Bool → ℕ → ℕ
more_satisfied d spins i = max (satisfied d.size d.bonds spins i) (satisfied d.size d.bonds (turned spins i) i)

-- Metropolis balances to within the rounding of its threshold times the greater weight
abbrev pub MetropolisBalances : Type 0
MetropolisBalances = (r s a b : ℕ) (d : Dynamics) (spins : List Bool) (i : ℕ) → d.rule ≡ Metropolis
    → IsLawfulSize d.size → length spins ≡ volume d.size → i < volume d.size
    → (4 ≤ more_satisfied d spins i → IsMetropolisThreshold r s a b d.thresholds (more_satisfied d spins i))
    → Balances (r * max (weight_of a b d spins) (weight_of a b d (turned spins i))) s a b d spins i

-- heat bath balances to within the rounding of its threshold times both weights
abbrev pub HeatBathBalances : Type 0
HeatBathBalances = (r s a b : ℕ) (d : Dynamics) (spins : List Bool) (i : ℕ) → d.rule ≡ HeatBath
    → IsLawfulSize d.size → length spins ≡ volume d.size → i < volume d.size
    → IsHeatBathThreshold r s a b d.thresholds (aligned d.size d.bonds spins i)
    → Balances (r * (weight_of a b d spins + weight_of a b d (turned spins i))) s a b d spins i

-- the threshold that decides at the site is exact
abbrev pub IsExactAt : ℕ → ℕ → Rule → List ℕ → ℕ → ℕ → Type 0
IsExactAt a b HeatBath thresholds j k = IsHeatBathThreshold 0 1 a b thresholds j
IsExactAt a b Metropolis thresholds j k = 4 ≤ k → IsMetropolisThreshold 0 1 a b thresholds k

-- and then the two sides are equal
abbrev pub ExactThresholdsBalance : Type 0
ExactThresholdsBalance = (a b : ℕ) (d : Dynamics) (spins : List Bool) (i : ℕ)
    → IsLawfulSize d.size → length spins ≡ volume d.size → i < volume d.size
    → IsExactAt a b d.rule d.thresholds (aligned d.size d.bonds spins i) (more_satisfied d spins i)
    → turning_draws d spins i * weight_of a b d spins ≡ turning_draws d (turned spins i) i * weight_of a b d (turned spins i)

-- how many draws keep the spin
abbrev pub keeping_draws : Dynamics → List Bool → ℕ → ℕ
keeping_draws d spins i = count_below (λ u. not (turns d spins i u)) (2 ^ 32)

-- so the update of a site leaves Boltzmann's distribution as it is: what comes to a configuration, from that with the
-- spin turned and from itself, is 2 ^ 32 times its own weight
abbrev pub UpdatesKeepBoltzmann : Type 0
UpdatesKeepBoltzmann = (a b : ℕ) (d : Dynamics) (spins : List Bool) (i : ℕ)
    → IsLawfulSize d.size → length spins ≡ volume d.size → i < volume d.size
    → IsExactAt a b d.rule d.thresholds (aligned d.size d.bonds spins i) (more_satisfied d spins i)
    → turning_draws d (turned spins i) i * weight_of a b d (turned spins i) + keeping_draws d spins i * weight_of a b d spins ≡ 2 ^ 32 * weight_of a b d spins

-- ---- exact thresholds of heat bath

-- with exact thresholds the two of opposite fields make 2 ^ 32, in the ratio of the weights of the spins; two weights of 0
-- stand for nothing
abbrev pub OppositeFieldsAddUp : Type 0
OppositeFieldsAddUp = (a b : ℕ) (thresholds : List ℕ) (j : ℕ) → j ≤ 6 → 0 < site_weight a b j + site_weight a b (6 - j)
    → IsHeatBathThreshold 0 1 a b thresholds j → IsHeatBathThreshold 0 1 a b thresholds (6 - j)
    → (slice_index thresholds j + slice_index thresholds (6 - j) ≡ 2 ^ 32)
    × (slice_index thresholds (6 - j) * site_weight a b j ≡ slice_index thresholds j * site_weight a b (6 - j))
