-- Values that were worked out with pencil and paper, so that a wrong definition of the words does not check.
use Rattle.std.proofs.Common.{◌≡◌, ℕ, ◌+◌, ◌*◌, [], ◌∷◌, refl}
use Rattle.std.specs.Prelude.{count_by, slice_index}
use Rattle.finite_chance.specs.Sums.{sum_to, over_spin, sum_lists}
use Rattle.finite_chance.specs.Chains.{after, outcomes}

-- 0 + 1 + 4 + 9
pub four_squares : sum_to 4 (λ u. u * u) ≡ 14
unfolding sum_to
four_squares = refl

-- two spins are +1 in one of the four configurations, one is in two and none in one
pub spins_up_of_two : sum_lists over_spin 2 (λ s. count_by (λ b. b) s) ≡ 4
unfolding sum_lists
spins_up_of_two = refl

-- the nine lists of two draws below 3, read as numbers of two digits: 0 + 1 + 2 + 10 + 11 + 12 + 20 + 21 + 22
pub two_digits : sum_lists (sum_to 3) 2 (λ us. slice_index us 0 * 10 + slice_index us 1) ≡ 99
unfolding sum_lists sum_to
two_digits = refl

-- decisions 1 and 2 by draws 3 and 4 append 13 and then 24 to the digits of a number
abbrev append : ℕ → ℕ → ℕ → ℕ
append d u x = x * 100 + d * 10 + u

pub first_one_first : after append (1 ∷ 2 ∷ []) (3 ∷ 4 ∷ []) 7 ≡ 71324
unfolding after
first_one_first = refl

-- by the four lists of two draws below 2: 1020 + 1021 + 1120 + 1121
pub four_outcomes : outcomes append 2 (1 ∷ 2 ∷ []) (λ x. x) 0 ≡ 4282
unfolding after sum_lists sum_to
four_outcomes = refl
