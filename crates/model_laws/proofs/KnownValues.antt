-- Values that were worked out with pencil and paper, so that a law over wrong definitions of its words does not check.
use Rattle.std.proofs.Common.{◌≡◌, ℕ, ◌+◌, ◌*◌, ◌-◌, ◌^◌, true, false, Bool, [], ◌∷◌, refl}
use Rattle.std.specs.Prelude.{◌==◌, map, replicate, pos, neg_ℤ}
use Rattle.spin_model.specs.Lattice.{forward, backward}
use Rattle.spin_model.specs.Steps.{count_below}
use Rattle.spin_model.specs.SiteRule.{HeatBath, Metropolis, new_spin}
use Rattle.spin_model.specs.SignedSums.{sum_of}
use Rattle.threshold_table.specs.Tables.{swap_threshold}
use Rattle.scalar_rule.specs.Exchange.{is_swapped}
use Rattle.scalar_rule.specs.Neighbours.{agree, satisfied}
use Rattle.scalar_rule.specs.Sums.{energy}
use Rattle.model_laws.specs.Energies.{hamiltonian, turned}
use Rattle.model_laws.specs.Weights.{weight}
use Rattle.model_laws.specs.Balance.{site_weight}
use Rattle.model_laws.specs.ExchangeBalance.{half_difference}

-- the couplings of which bond 0, from site 0 to site 1, alone is -1
abbrev one_negative : ℕ → Bool
one_negative n = n == 0

-- size 4, every spin +1: of 192 bonds one costs +1 and the others -1. Site 0 has five of six satisfied, so that its turn
-- costs 4 * 5 - 12 = 8; site 5 has six and costs 12
pub energies_at_a_negative_bond : (hamiltonian 4 one_negative (replicate 64 true) ≡ neg_ℤ (pos 190))
    × (energy 4 one_negative (turned (replicate 64 true) 0) ≡ neg_ℤ (pos 182))
    × (hamiltonian 4 one_negative (turned (replicate 64 true) 5) ≡ neg_ℤ (pos 178))
    × (satisfied 4 one_negative (replicate 64 true) 0 ≡ 5)
    × (satisfied 4 one_negative (turned (replicate 64 true) 0) 0 ≡ 1)
unfolding forward backward sum_of count_below satisfied
energies_at_a_negative_bond = (refl, refl, refl, refl, refl)

-- at exp(-4 beta) = 2 / 3 that turn at site 0, four unsatisfied bonds more, makes the configuration 4 / 9 times as likely
pub weights_at_a_negative_bond : weight 2 3 4 one_negative (turned (replicate 64 true) 0) * 9 ≡ weight 2 3 4 one_negative (replicate 64 true) * 4
unfolding forward count_below
weights_at_a_negative_bond = refl

-- of eight draws, three are below a threshold of 3: heat bath makes three spins up and five down; Metropolis with five
-- satisfied bonds turns one spin at its second threshold, 1, and with three bonds all eight; a gap of 4 swaps by six at the
-- second entry, and no gap, or fewer unsatisfied bonds in the hotter slot, by all eight
pub eight_draws : (count_below (λ u. agree (new_spin HeatBath (7 ∷ 3 ∷ []) 1 0 u false) true) 8 ≡ 3)
    × (count_below (λ u. agree (new_spin HeatBath (7 ∷ 3 ∷ []) 1 0 u true) false) 8 ≡ 5)
    × (count_below (λ u. agree (new_spin Metropolis (7 ∷ 1 ∷ 2 ∷ []) 0 5 u true) false) 8 ≡ 1)
    × (count_below (λ u. agree (new_spin Metropolis (7 ∷ 1 ∷ 2 ∷ []) 0 3 u true) false) 8 ≡ 8)
    × (count_below (λ u. is_swapped ((7 ∷ 6 ∷ []) ∷ []) 0 u 10 14) 8 ≡ 6)
    × (count_below (λ u. is_swapped ((7 ∷ 6 ∷ []) ∷ []) 0 u 14 10) 8 ≡ 8)
    × (count_below (λ u. is_swapped ((7 ∷ 6 ∷ []) ∷ []) 0 u 10 10) 8 ≡ 8)
unfolding count_below
eight_draws = (refl, refl, refl, refl, refl, refl, refl)

-- exact thresholds: at exp(-4 beta) = 1 / 2 Metropolis has 2 ^ 31, 2 ^ 30 and 2 ^ 29
pub halved_thresholds : (2 ^ 31 * 2 ^ (4 - 3) ≡ 2 ^ 32 * 1 ^ (4 - 3)) × (2 ^ 30 * 2 ^ (5 - 3) ≡ 2 ^ 32 * 1 ^ (5 - 3)) × (2 ^ 29 * 2 ^ (6 - 3) ≡ 2 ^ 32 * 1 ^ (6 - 3))
halved_thresholds = (refl, refl, refl)

-- and at exp(-4 beta) = 1 / 3 heat bath with four neighbours aligned has three quarters of 2 ^ 32, with two one quarter
pub quarter_thresholds : (map (site_weight 1 3) (2 ∷ 3 ∷ 4 ∷ 6 ∷ []) ≡ 1 ∷ 1 ∷ 3 ∷ 27 ∷ [])
    × (3 * 2 ^ 30 * (site_weight 1 3 4 + site_weight 1 3 2) ≡ 2 ^ 32 * site_weight 1 3 4)
    × (2 ^ 30 * (site_weight 1 3 2 + site_weight 1 3 4) ≡ 2 ^ 32 * site_weight 1 3 2)
quarter_thresholds = (refl, refl, refl)

-- a gap of 4 unsatisfied bonds is m = 2, entry 1
pub gap_of_four : (half_difference 14 10 ≡ 2) × (half_difference 10 14 ≡ 2) × (swap_threshold ((7 ∷ 6 ∷ []) ∷ []) 0 (half_difference 10 14 - 1) ≡ 6)
gap_of_four = (refl, refl, refl)
