-- The sums of a slot over four epochs of a glass of side 4, from the rows that they have in a report: worked out by an independent program.
use Rattle.std.proofs.Common.{◌≡◌, ℕ, List, [], ◌∷◌, ℤ, pos, neg_ℤ, nat_lt, if◌then◌else◌, map, refl}
use Rattle.spin_model.specs.Steps.{count_below}
use Rattle.spin_model.specs.SignedSums.{sum_of}
use Rattle.measured_sums.specs.MeasuredSums.{Observed, Number, Energies, EnergySquares, EnergyProducts, Overlaps, Magnitudes, OverlapSquares, OverlapFourths, EnergyOverlapSquares, EnergyOverlapFourths}
use Rattle.measured_sums.specs.RunningSums.{RunningSums, behind_epoch, no_sums}

-- both energies, and the overlap 64 less twice a number of sites
abbrev report_row : ℕ → ℕ → ℕ → Observed
report_row first second differing = record {
  first_energy = neg_ℤ (pos first);
  second_energy = neg_ℤ (pos second);
  field = λ i. if nat_lt i differing then neg_ℤ (pos 1) else pos 1;
}

-- the overlaps -10, -14, -6 and -14, of which every one or each other one is measured
abbrev glass : ℕ → RunningSums
glass every =
    behind_epoch every 4 3 (report_row 82 46 39)
    (behind_epoch every 4 2 (report_row 86 70 35)
    (behind_epoch every 4 1 (report_row 78 78 39)
    (behind_epoch every 4 0 (report_row 54 66 37) no_sums)))

abbrev shown : ℕ → ℕ → List ℤ
shown every k =
    map (glass every k)
    (Number ∷ Energies ∷ EnergySquares ∷ EnergyProducts ∷ Overlaps ∷ Magnitudes ∷ OverlapSquares ∷ OverlapFourths ∷ EnergyOverlapSquares ∷ EnergyOverlapFourths ∷ [])

pub sums_of_bins : map (shown 1) (0 ∷ 1 ∷ 2 ∷ 3 ∷ [])
    ≡ (pos 1 ∷ neg_ℤ (pos 120) ∷ pos 7272 ∷ pos 3564 ∷ neg_ℤ (pos 10) ∷ pos 10 ∷ pos 100 ∷ pos 10000 ∷ neg_ℤ (pos 12000) ∷ neg_ℤ (pos 1200000) ∷ [])
    ∷ (pos 1 ∷ neg_ℤ (pos 156) ∷ pos 12168 ∷ pos 6084 ∷ neg_ℤ (pos 14) ∷ pos 14 ∷ pos 196 ∷ pos 38416 ∷ neg_ℤ (pos 30576) ∷ neg_ℤ (pos 5992896) ∷ [])
    ∷ (pos 2 ∷ neg_ℤ (pos 284) ∷ pos 21136 ∷ pos 9792 ∷ neg_ℤ (pos 20) ∷ pos 20 ∷ pos 232 ∷ pos 39712 ∷ neg_ℤ (pos 30704) ∷ neg_ℤ (pos 5119424) ∷ [])
    ∷ (pos 0 ∷ pos 0 ∷ pos 0 ∷ pos 0 ∷ pos 0 ∷ pos 0 ∷ pos 0 ∷ pos 0 ∷ pos 0 ∷ pos 0 ∷ [])
    ∷ []
unfolding sum_of count_below
sums_of_bins = refl

-- epochs 1 and 3
pub sums_of_each_other_epoch : map (shown 2) (0 ∷ 1 ∷ 2 ∷ [])
    ≡ (pos 0 ∷ pos 0 ∷ pos 0 ∷ pos 0 ∷ pos 0 ∷ pos 0 ∷ pos 0 ∷ pos 0 ∷ pos 0 ∷ pos 0 ∷ [])
    ∷ (pos 1 ∷ neg_ℤ (pos 156) ∷ pos 12168 ∷ pos 6084 ∷ neg_ℤ (pos 14) ∷ pos 14 ∷ pos 196 ∷ pos 38416 ∷ neg_ℤ (pos 30576) ∷ neg_ℤ (pos 5992896) ∷ [])
    ∷ (pos 1 ∷ neg_ℤ (pos 128) ∷ pos 8840 ∷ pos 3772 ∷ neg_ℤ (pos 14) ∷ pos 14 ∷ pos 196 ∷ pos 38416 ∷ neg_ℤ (pos 25088) ∷ neg_ℤ (pos 4917248) ∷ [])
    ∷ []
unfolding sum_of count_below
sums_of_each_other_epoch = refl
