-- The sums of 64 samples over the measured epochs of a bin.
use Rattle.std.specs.Prelude.{◌≡◌, ℕ, ◌-◌, ◌*◌, ◌<◌, ◌≤◌, ℤ, pos, nat_abs, List, [], length, slice_index_or}
use Rattle.spin_model.specs.Limits.{last_epoch}
use Rattle.measured_sums.specs.MeasuredSums.{Quantity, Number, Energies, EnergySquares, EnergyProducts, Links, LinkSquares, Overlaps, Magnitudes, OverlapSquares, OverlapFourths, EnergyOverlapSquares, EnergyOverlapFourths, InClass, Axes, Faces}
use Rattle.plane_sums.specs.declared.epoch_bins.BinSums.{BinSums}
use Rattle.plane_sums.specs.Correlations.{signed_at}

abbrev pub moment_in : BinSums → ℕ → ℕ → ℤ
moment_in s b k = signed_at (slice_index_or s.moments b []) k

-- the sum of a quantity in sample b
abbrev pub sum_in : BinSums → ℕ → Quantity → ℤ
sum_in s b Number = pos s.epochs
sum_in s b Energies = moment_in s b 0
sum_in s b EnergySquares = moment_in s b 1
sum_in s b EnergyProducts = moment_in s b 2
sum_in s b Links = moment_in s b 3
sum_in s b LinkSquares = moment_in s b 4
sum_in s b Overlaps = moment_in s b 5
sum_in s b Magnitudes = moment_in s b 6
sum_in s b OverlapSquares = moment_in s b 7
sum_in s b OverlapFourths = moment_in s b 8
sum_in s b EnergyOverlapSquares = moment_in s b 9
sum_in s b EnergyOverlapFourths = moment_in s b 10
sum_in s b (InClass c) = pos (slice_index_or (slice_index_or s.classes b []) c 0)
sum_in s b (Axes r) = signed_at (slice_index_or s.axis r []) b
sum_in s b (Faces r) = signed_at (slice_index_or s.face r []) b

-- no moment of an epoch is greater: twice the bonds times the fourth power of the sites at side 64
abbrev pub most_moment : ℕ
most_moment = 1572864 * 4722366482869645213696

-- so no sum is above as many times the greatest term as epochs are summed
pub record IsBin (s : BinSums) : Type 0 where
  pub epochs : s.epochs ≤ last_epoch
  pub moments : (b k : ℕ) → b < 64 → k < 11 → nat_abs (moment_in s b k) ≤ s.epochs * most_moment
  pub classes : (b c : ℕ) → b < 64 → c < 32 → slice_index_or (slice_index_or s.classes b []) c 0 ≤ s.epochs
  pub axis : (r b : ℕ) → r < 33 → b < 64 → nat_abs (signed_at (slice_index_or s.axis r []) b) ≤ s.epochs * 3221225472
  pub face : (r b : ℕ) → r < 33 → b < 64 → nat_abs (signed_at (slice_index_or s.face r []) b) ≤ s.epochs * 6442450944

-- the sums over no epoch
abbrev pub empty_bin : BinSums
empty_bin = record { epochs = 0; moments = []; classes = []; axis = []; face = [] }

abbrev pub AreBins : List BinSums → Type 0
AreBins bins = (k : ℕ) → k < length bins → IsBin (slice_index_or bins k empty_bin)

abbrev pub AreEmpty : List BinSums → Type 0
AreEmpty bins = (k b : ℕ) (quantity : Quantity) → k < length bins → sum_in (slice_index_or bins k empty_bin) b quantity ≡ pos 0

-- a slot's bins from a first one on
pub record SumsView : Type 0 where
  pub first : ℕ
  pub bins : List BinSums

-- bin k of them
abbrev pub bin_at : SumsView → ℕ → BinSums
bin_at sums k = slice_index_or sums.bins (k - sums.first) empty_bin
