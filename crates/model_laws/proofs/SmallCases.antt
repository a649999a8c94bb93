-- The laws at small cases, by computing from the definitions alone, with eight draws in place of 2 ^ 32: a wrong definition
-- that breaks a law at one of them is refused here.
use Rattle.std.proofs.Common.{◌≡◌, ℕ, ◌+◌, ◌*◌, Bool, true, false, List, [], ◌∷◌, refl, cond}
use Rattle.std.specs.Prelude.{◌==◌, ◌||◌, replicate, take, pos, ◌+ℤ◌, ◌-ℤ◌}
use Rattle.spin_model.specs.Lattice.{forward, backward, compact}
use Rattle.spin_model.specs.Stream.{advanced}
use Rattle.spin_model.specs.Steps.{count_below, table}
use Rattle.spin_model.specs.SiteRule.{HeatBath, Metropolis, new_spin}
use Rattle.spin_model.specs.SignedSums.{sum_of}
use Rattle.threshold_table.specs.declared.rule_table.RuleKind.TheVariants as kinds
use Rattle.scalar_rule.specs.Plan.{Plan}
use Rattle.scalar_rule.specs.Exchange.{is_swapped, decision, cold_side, hot_side}
use Rattle.scalar_rule.specs.Epoch.{side, exchanged, record_of}
use Rattle.scalar_rule.specs.Neighbours.{spin, aligned, satisfied}
use Rattle.scalar_rule.specs.Sums.{energy, unsatisfied}
use Rattle.scalar_rule.specs.Sweep.{Dynamics, visit}
use Rattle.scalar_rule.specs.declared.plain_copy.PlainCopy.{PlainCopy}
use Rattle.scalar_rule.specs.declared.sample.PlainPair.{PlainPair}
use Rattle.scalar_rule.specs.declared.sample.PlainSlot.{PlainSlot}
use Rattle.model_laws.specs.Energies.{hamiltonian, turned}
use Rattle.model_laws.specs.Weights.{weight}
use Rattle.model_laws.specs.Balance.{turns, updated_by}
use Rattle.model_laws.specs.Order.{swept_in_order}

-- the bonds from site 0 to sites 1 and 4 are -1, all others +1
abbrev two_negative : ℕ → Bool
two_negative n = n == 0 || n == 1

-- size 4, every spin +1
abbrev up : List Bool
up = replicate 64 true

-- E is minus the sum of J s s', with two of three bonds of site 0 negative: both ways - 188
pub energy_both_ways : energy 4 two_negative up ≡ hamiltonian 4 two_negative up
unfolding forward backward sum_of count_below
energy_both_ways = refl

-- site 0 has four satisfied bonds, so its turn costs 4
pub cost_of_a_turn : energy 4 two_negative (turned up 0) ≡ energy 4 two_negative up +ℤ (pos (4 * satisfied 4 two_negative up 0) -ℤ pos 12)
unfolding forward backward count_below satisfied
cost_of_a_turn = refl

-- after it there are two, and as many aligned neighbours
pub bonds_of_a_turn : (satisfied 4 two_negative (turned up 0) 0 + satisfied 4 two_negative up 0 ≡ 6) × (aligned 4 two_negative (turned up 0) 0 ≡ aligned 4 two_negative up 0)
unfolding forward backward satisfied aligned
bonds_of_a_turn = (refl, refl)

-- at exp(-4 beta) = 1 / 2 it makes the configuration half as likely
pub weights_of_a_turn : weight 1 2 4 two_negative (turned up 0) * 2 ≡ weight 1 2 4 two_negative up
unfolding forward backward count_below
weights_of_a_turn = refl

-- Metropolis where exp(-4 beta) = 1 / 2
abbrev metropolis_at_half : Dynamics
metropolis_at_half = record { size = 4; rule = Metropolis; thresholds = 4 ∷ 2 ∷ 1 ∷ []; bonds = two_negative }

-- of eight draws, with thresholds 4, 2 and 1, which are exact there, four turn site 0 and all eight turn it back
pub metropolis_by_eight_draws : count_below (turns metropolis_at_half up 0) 8 * weight 1 2 4 two_negative up ≡ count_below (turns metropolis_at_half (turned up 0) 0) 8 * weight 1 2 4 two_negative (turned up 0)
unfolding forward backward count_below satisfied aligned visit
metropolis_by_eight_draws = refl

-- heat bath where exp(-4 beta) = 1 / 3, exact for two to four aligned neighbours
abbrev heat_bath_at_third : Dynamics
heat_bath_at_third = record { size = 4; rule = HeatBath; thresholds = 0 ∷ 0 ∷ 2 ∷ 4 ∷ 6 ∷ 0 ∷ 0 ∷ []; bonds = two_negative }

-- at exp(-4 beta) = 1 / 3 six of eight draws make +1 where four neighbours are aligned: two turn site 0, six turn it back
pub heat_bath_by_eight_draws : count_below (turns heat_bath_at_third up 0) 8 * weight 1 3 4 two_negative up ≡ count_below (turns heat_bath_at_third (turned up 0) 0) 8 * weight 1 3 4 two_negative (turned up 0)
unfolding forward backward count_below satisfied aligned visit
heat_bath_by_eight_draws = refl

abbrev entries : List (List ℕ)
entries = (4 ∷ 2 ∷ 1 ∷ []) ∷ []

-- at exp(-4 beta) = 1 / 2 in the colder slot and 1 in the hotter the entry for a gap of 2 is four of eight draws
pub exchange_by_eight_draws : count_below (λ u. is_swapped entries 0 u (unsatisfied 4 two_negative up) (unsatisfied 4 two_negative (turned up 0))) 8 * (weight 1 2 4 two_negative up * weight 1 1 4 two_negative (turned up 0))
    ≡ count_below (λ u. is_swapped entries 0 u (unsatisfied 4 two_negative (turned up 0)) (unsatisfied 4 two_negative up)) 8 * (weight 1 2 4 two_negative (turned up 0) * weight 1 1 4 two_negative up)
unfolding forward backward count_below
exchange_by_eight_draws = refl

-- heat bath on the ferromagnet: at draws 0 and 1 a spin with six neighbours aligned stays +1
abbrev ferromagnet : Dynamics
ferromagnet = record { size = 4; rule = HeatBath; thresholds = 0 ∷ 0 ∷ 0 ∷ 0 ∷ 0 ∷ 0 ∷ 2 ∷ []; bonds = λ _. false }

-- draw 3 at site 0, and 1 at all others
abbrev three_at_0 : ℕ → ℕ
three_at_0 i = cond (i == 0) 3 1

-- heat bath on the ferromagnet, where site 0 turns and site 2 doesn't: in either order, and with a site of the other colour named
pub order_of_two_sites : take 4 (swept_in_order ferromagnet three_at_0 0 (0 ∷ 1 ∷ 2 ∷ []) up) ≡ take 4 (swept_in_order ferromagnet three_at_0 0 (2 ∷ 0 ∷ []) up)
unfolding swept_in_order forward backward satisfied aligned visit
order_of_two_sites = refl

-- the spin of site 0 is the same by two lists of draws that agree there
pub draw_of_another_site : spin (visit ferromagnet (λ i. 1) 0 0 up) 0 ≡ spin (visit ferromagnet (λ i. cond (i == 0) 1 3) 0 0 up) 0
unfolding forward backward satisfied aligned visit
draw_of_another_site = refl

-- and it is that of the rule, by the counts and the spin at the site
pub one_site_by_the_rule : spin (visit metropolis_at_half (λ i. 7) 0 0 (turned up 1)) 0 ≡ new_spin Metropolis metropolis_at_half.thresholds (aligned 4 two_negative (turned up 1) 0) (satisfied 4 two_negative (turned up 1) 0) 7 true
unfolding forward backward satisfied aligned visit
one_site_by_the_rule = refl

-- the least draw makes +1, the greatest of eight -1
pub either_spin : (spin (updated_by heat_bath_at_third up 0 0) 0 ≡ true) × (spin (updated_by heat_bath_at_third up 0 7) 0 ≡ false)
unfolding forward backward satisfied aligned visit
either_spin = (refl, refl)

-- ---- two slots

-- two slots, with these coupling words and entries
abbrev plan_with : List ℕ → List (List ℕ) → Plan
plan_with words entries_of_pairs = record { size = 4; rules = record { kind = kinds.Heat; rows = [] ∷ [] ∷ [] }; swaps = entries_of_pairs; couplings = record { size = 4; words = words }; sweeps = 1; seed = 0 }

abbrev copy : List Bool → List (List ℕ) → ℕ → PlainCopy
copy s w r = record { spins = s; wheels = w; replica = r }

-- one spin +1 has six unsatisfied bonds on the ferromagnet; a slot without spins counts as all -1
abbrev slots : List PlainSlot
slots = (record { first = copy (true ∷ []) ((1 ∷ []) ∷ []) 0; second = copy [] [] 0 }) ∷ (record { first = copy [] [] 1; second = copy (true ∷ []) [] 1 }) ∷ []

-- the draws of the pair: 7 for the first replica, 0 for the second; the entry of a gap of 6 is 3
abbrev pairs : List PlainPair
pairs = (record { first = 7 ∷ []; second = [] }) ∷ []

abbrev after : ℕ → PlainSlot
after t = exchanged (plan_with [] ((0 ∷ 0 ∷ 3 ∷ []) ∷ [])) 0 0 pairs slots t

-- the colder slot has six unsatisfied bonds and the hotter none, so at any draw they trade spins and labels, and keep
-- their generators
pub trade_at_any_draw : ((after 0).first ≡ copy [] ((1 ∷ []) ∷ []) 1) × ((after 1).first ≡ copy (true ∷ []) [] 0)
unfolding side cold_side hot_side forward backward count_below advanced table
trade_at_any_draw = (refl, refl)

-- in the second replica the colder has fewer, and its own draw is below the entry
pub trade_by_its_own_draw : ((after 0).second ≡ copy (true ∷ []) [] 1) × ((after 1).second ≡ copy [] [] 0)
unfolding side cold_side hot_side forward backward count_below advanced table
trade_by_its_own_draw = (refl, refl)

-- the swap and the record of sample 1 are the same with other bits 0 and 2 in two words of the couplings
pub swap_without_other_samples : decision (plan_with [] ((0 ∷ 8 ∷ 0 ∷ []) ∷ [])) 1 0 [] (copy [] [] 0) (copy (true ∷ []) [] 1) ≡ decision (plan_with (5 ∷ 5 ∷ []) ((0 ∷ 8 ∷ 0 ∷ []) ∷ [])) 1 0 [] (copy [] [] 0) (copy (true ∷ []) [] 1)
unfolding forward backward compact count_below advanced table
swap_without_other_samples = refl

pub record_without_other_samples : (record_of (plan_with [] []) 1 (record { first = copy [] [] 0; second = copy [] [] 0 })).first_energy ≡ (record_of (plan_with (5 ∷ 5 ∷ []) []) 1 (record { first = copy [] [] 0; second = copy [] [] 0 })).first_energy
unfolding forward backward compact count_below advanced table
record_without_other_samples = refl
