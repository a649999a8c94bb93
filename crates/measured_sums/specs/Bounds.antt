-- How great the sums of a run get.
use Rattle.std.specs.Prelude.{ℕ, ◌*◌, ◌^◌, ◌≤◌, ◌<◌, nat_abs}
use Rattle.spin_model.specs.Limits.{last_epoch}
use Rattle.spin_model.specs.Lattice.{IsLawfulSize, volume, bond_count}
use Rattle.scalar_rule.specs.Plan.{Plan}
use Rattle.scalar_rule.specs.declared.sample.Sample.{Sample}
use Rattle.measured_sums.specs.MeasuredSums.{Quantity, Number, Energies, EnergySquares, EnergyProducts, Links, LinkSquares, Overlaps, Magnitudes, OverlapSquares, OverlapFourths, EnergyOverlapSquares, EnergyOverlapFourths, InClass, Axes, Faces, epochs_in_bin, sum_from}

-- no epoch adds more to a quantity: an energy is at most the number of bonds, Q the number of sites, C the fifth power of the side
abbrev pub greatest_term : ℕ → Quantity → ℕ
greatest_term l Number = 1
greatest_term l Energies = 2 * bond_count l
greatest_term l EnergySquares = 2 * (bond_count l * bond_count l)
greatest_term l EnergyProducts = bond_count l * bond_count l
greatest_term l Links = bond_count l
greatest_term l LinkSquares = bond_count l * bond_count l
greatest_term l Overlaps = volume l
greatest_term l Magnitudes = volume l
greatest_term l OverlapSquares = volume l * volume l
greatest_term l OverlapFourths = volume l * volume l * (volume l * volume l)
greatest_term l EnergyOverlapSquares = 2 * bond_count l * (volume l * volume l)
greatest_term l EnergyOverlapFourths = 2 * bond_count l * (volume l * volume l * (volume l * volume l))
greatest_term l (InClass c) = 1
greatest_term l (Axes r) = 3 * (l * (l * l * (l * l)))
greatest_term l (Faces r) = 6 * (l * (l * l * (l * l)))

-- so a sum is at most as many times that as epochs are measured
abbrev pub SumsAreAtMost : Type 0
SumsAreAtMost = (plan : Plan) (s : Sample) (every e t k : ℕ) (quantity : Quantity)
    → nat_abs (sum_from plan s every e t k quantity) ≤ epochs_in_bin every k s.epoch e * greatest_term plan.size quantity

-- the numbers of measured epochs are at most those of all epochs, and as many of the greatest terms as a run may have epochs fit in
-- 128 bits with a sign, of the correlations in 64
abbrev pub EpochsAreFew : Type 0
EpochsAreFew = (every k c e : ℕ) → e ≤ last_epoch → epochs_in_bin every k c e ≤ last_epoch

abbrev pub GreatestSumsFit : Type 0
GreatestSumsFit = (l : ℕ) → IsLawfulSize l → ((quantity : Quantity) → last_epoch * greatest_term l quantity < 2 ^ 127)
    × ((r : ℕ) → (last_epoch * greatest_term l (Axes r) < 2 ^ 63) × (last_epoch * greatest_term l (Faces r) < 2 ^ 63))
