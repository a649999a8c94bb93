-- Values that were worked out apart from this repository, so that a wrong rule in the definitions does not check.
use Rattle.std.proofs.Common.{◌≡◌, ℕ, ◌-◌, ◌^◌, [], ◌∷◌, List, Bool, true, false, refl}
use Rattle.std.specs.Prelude.{◌==◌, map, replicate}
use Rattle.spin_model.specs.Steps.{count_below}
use Rattle.spin_model.specs.Lattice.{forward, backward}
use Rattle.scalar_rule.specs.Neighbours.{aligned, satisfied}
use Rattle.scalar_rule.specs.Exchange.{is_swapped}
use Rattle.scalar_rule.specs.Epoch.{has_turn, has_partner, pair_of, partner}
use Rattle.scalar_rule.specs.Ragged.{Position}
use Rattle.scalar_rule.specs.Records.{is_recorded, recorded_epochs}
use Rattle.scalar_rule.specs.Positions.{least, greatest, sum_below, done, position_in, floor_of, deepest_of, cell_number, pending_before, pending_count}

-- a colder slot with as many unsatisfied bonds or more is always swapped, also without an entry and at the greatest draw
pub ties_and_falls : map (λ hot. is_swapped ([] ∷ []) 0 (2 ^ 32 - 1) 10 hot) (8 ∷ 10 ∷ 12 ∷ []) ≡ true ∷ true ∷ false ∷ []
ties_and_falls = refl

-- a gap of 2 reads entry 0, of 4 entry 1, of 6 entry 2; past the last entry a swap is never made, also at draw 0
pub gaps : map (λ hot. is_swapped ((0 ∷ 2 ^ 32 ∷ 0 ∷ 2 ^ 32 ∷ []) ∷ []) 0 0 10 hot) (12 ∷ 14 ∷ 16 ∷ 18 ∷ 20 ∷ []) ≡ false ∷ true ∷ false ∷ true ∷ false ∷ []
gaps = refl

-- a draw equal to its entry is not below it
pub draws_at_the_entry : map (λ draw. is_swapped ((5 ∷ []) ∷ []) 0 draw 10 12) (4 ∷ 5 ∷ []) ≡ true ∷ false ∷ []
draws_at_the_entry = refl

-- of four slots, epoch 0 exchanges pairs 0 and 2, epoch 1 pair 1 alone
pub pairs_in_turn : (map (λ k. has_turn k 0) (0 ∷ 1 ∷ 2 ∷ []) ≡ true ∷ false ∷ true ∷ []) × (map (λ k. has_turn k 1) (0 ∷ 1 ∷ 2 ∷ []) ≡ false ∷ true ∷ false ∷ [])
pairs_in_turn = (refl, refl)

pub slots_with_a_partner : (map (λ t. has_partner 4 t 0) (0 ∷ 1 ∷ 2 ∷ 3 ∷ []) ≡ true ∷ true ∷ true ∷ true ∷ [])
    × (map (λ t. has_partner 4 t 1) (0 ∷ 1 ∷ 2 ∷ 3 ∷ []) ≡ false ∷ true ∷ true ∷ false ∷ [])
    × (map (λ t. has_partner 3 t 0) (0 ∷ 1 ∷ 2 ∷ []) ≡ true ∷ true ∷ false ∷ [])
slots_with_a_partner = (refl, refl, refl)

pub partners : (map (λ t. partner t 0) (0 ∷ 1 ∷ 2 ∷ 3 ∷ []) ≡ 1 ∷ 0 ∷ 3 ∷ 2 ∷ [])
    × (map (λ t. partner t 1) (1 ∷ 2 ∷ []) ≡ 2 ∷ 1 ∷ [])
    × (map (λ t. pair_of t 0) (0 ∷ 1 ∷ 2 ∷ 3 ∷ []) ≡ 0 ∷ 0 ∷ 2 ∷ 2 ∷ [])
    × (map (λ t. pair_of t 1) (1 ∷ 2 ∷ []) ≡ 1 ∷ 1 ∷ [])
partners = (refl, refl, refl, refl)

-- every tenth epoch is recorded, the last of each ten
pub every_tenth : map (is_recorded 10) (0 ∷ 8 ∷ 9 ∷ 10 ∷ 19 ∷ []) ≡ false ∷ false ∷ true ∷ false ∷ true ∷ []
every_tenth = refl

-- so of the epochs 9 to 29 three, of those 10 to 19 one and of those 10 to 18 none
pub some_of_each_ten : (recorded_epochs 10 9 30 ≡ 3) × (recorded_epochs 10 10 20 ≡ 1) × (recorded_epochs 10 10 19 ≡ 0)
some_of_each_ten = (refl, refl, refl)

-- the couplings of which bond 0 alone is -1
abbrev one_negative : ℕ → Bool
one_negative n = n == 0

-- every spin +1 at size 4 and bond 0, from site 0 to site 1, alone negative: its two ends have five of six satisfied
pub counts_at_a_negative_bond : (map (aligned 4 one_negative (replicate 64 true)) (0 ∷ 1 ∷ 2 ∷ []) ≡ 5 ∷ 5 ∷ 6 ∷ [])
    × (map (satisfied 4 one_negative (replicate 64 true)) (0 ∷ 1 ∷ 3 ∷ []) ≡ 5 ∷ 5 ∷ 6 ∷ [])
unfolding aligned satisfied forward backward
counts_at_a_negative_bond = (refl, refl)

-- three slots: the first waits at epoch 2, the second is at rest at 1, the third waits there
pub three_slots : List Position
three_slots = record { epoch = 2; waits = true } ∷ record { epoch = 1; waits = false } ∷ record { epoch = 1; waits = true } ∷ []

-- so they have completed 3, 1 and 2 epochs
pub epochs_of_three_slots : (floor_of three_slots ≡ 1) × (deepest_of three_slots ≡ 3) × (sum_below (λ t. done (position_in three_slots t)) 3 ≡ 6)
unfolding least greatest sum_below three_slots
epochs_of_three_slots = (refl, refl, refl)

-- and with two samples six records are kept ahead of epoch 1: of epoch 1 slots 0 and 2 in sample 0, then in sample 1; of
-- epoch 2 slot 0 in both
pub records_of_three_slots : (pending_count 2 1 three_slots ≡ 6)
    × (map (λ (t : ℕ). pending_before 2 1 three_slots (cell_number 1 2 3 1 0 t)) (0 ∷ 2 ∷ []) ≡ 0 ∷ 1 ∷ [])
    × (map (λ (t : ℕ). pending_before 2 1 three_slots (cell_number 1 2 3 1 1 t)) (0 ∷ 2 ∷ []) ≡ 2 ∷ 3 ∷ [])
    × (map (λ (b : ℕ). pending_before 2 1 three_slots (cell_number 1 2 3 2 b 0)) (0 ∷ 1 ∷ []) ≡ 4 ∷ 5 ∷ [])
unfolding least greatest count_below three_slots
records_of_three_slots = (refl, refl, refl, refl)
