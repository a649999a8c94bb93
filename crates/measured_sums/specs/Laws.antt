-- What holds of the sums, for every lattice size, field and run.
use Rattle.std.specs.Prelude.{◌≡◌, ℕ, ◌+◌, ◌-◌, ◌*◌, ◌/◌, ◌%◌, ◌^◌, ◌≤◌, ◌<◌, ℤ, pos, nat_abs, ◌+ℤ◌, ◌*ℤ◌, ◌≤ℤ◌, Bool, ◌==◌, if◌then◌else◌, List}
use Rattle.spin_model.specs.Steps.{count_below}
use Rattle.spin_model.specs.SignedSums.{sum_of}
use Rattle.spin_model.specs.Lattice.{IsLawfulSize, volume}
use Rattle.scalar_rule.specs.Plan.{Plan, slots_of}
use Rattle.scalar_rule.specs.Epoch.{epoch_records}
use Rattle.scalar_rule.specs.Serial.{serial}
use Rattle.scalar_rule.specs.Records.{is_recorded, record_at}
use Rattle.scalar_rule.specs.Sums.{overlap}
use Rattle.scalar_rule.specs.declared.sample.Sample.{Sample}
use Rattle.measured_sums.specs.OverlapField.{Field, site_overlap, total_overlap, link_overlap}
use Rattle.measured_sums.specs.PlaneFamilies.{Family, plane_of, plane_sum}
use Rattle.measured_sums.specs.PlaneCorrelations.{plane_correlation}
use Rattle.measured_sums.specs.EpochBins.{bin_of, epoch_digits, most_bins, overlap_classes}
use Rattle.measured_sums.specs.MeasuredSums.{Observed, Quantity, Number, EnergySquares, EnergyProducts, Links, LinkSquares, Overlaps, Magnitudes, OverlapSquares, InClass, Axes, Faces, square, term_of, observed, bin_sum, epochs_in_bin, sum_from}
use Rattle.measured_sums.specs.RunningSums.{behind_epoch, no_sums, sums_below}

-- ---- fields

-- the sum of q over the sites is the overlap of the records
abbrev pub TotalIsOverlap : Type 0
TotalIsOverlap = (l : ℕ) (first second : List Bool) → total_overlap l (site_overlap first second) ≡ overlap l first second

-- each site lies on one plane of a family, so the sums over its planes add up to that over all sites
abbrev pub PlanesAddUp : Type 0
PlanesAddUp = (l : ℕ) (q : Field) (family : Family) → IsLawfulSize l → sum_of (plane_sum l q family) l ≡ total_overlap l q

-- two planes are r apart one way around and l - r apart the other way
abbrev pub DistancesTurn : Type 0
DistancesTurn = (l : ℕ) (q : Field) (family : Family) (r : ℕ) → IsLawfulSize l → r ≤ l → plane_correlation l q family (l - r) ≡ plane_correlation l q family r

-- each pair of sites is some distance apart, so the correlations at all distances add up to the square of the sum over all sites: the
-- squared amplitude at wave number 0
abbrev pub DistancesAddUp : Type 0
DistancesAddUp = (l : ℕ) (q : Field) (family : Family) → IsLawfulSize l → sum_of (plane_correlation l q family) l ≡ square (total_overlap l q)

-- a field of two configurations is +1 or -1 at each site, so its sum over V sites is even where V is, and at most V
abbrev pub OverlapsAreEven : Type 0
OverlapsAreEven = (l : ℕ) (first second : List Bool) → IsLawfulSize l
    → (nat_abs (total_overlap l (site_overlap first second)) % 2 ≡ 0) × (nat_abs (total_overlap l (site_overlap first second)) ≤ volume l)

-- each plane of a family has as many sites as a face of the lattice
abbrev pub PlanesAreEqual : Type 0
PlanesAreEqual = (l : ℕ) (family : Family) (m : ℕ) → m < l → count_below (λ i. plane_of l family i == m) (volume l) ≡ l * l

-- no value of the field is above 1, as none of two configurations is
abbrev pub IsAtMostOne : Field → Type 0
IsAtMostOne q = (i : ℕ) → nat_abs (q i) ≤ 1

abbrev pub OverlapsAreAtMostOne : Type 0
OverlapsAreAtMostOne = (first second : List Bool) → IsAtMostOne (site_overlap first second)

-- so a plane's sum is at most its sites, a correlation at most l times the square of these, and the link sum at most the bonds
abbrev pub PlaneSumsAreBounded : Type 0
PlaneSumsAreBounded = (l : ℕ) (q : Field) (family : Family) (m : ℕ) → IsAtMostOne q → m < l → nat_abs (plane_sum l q family m) ≤ l * l

abbrev pub CorrelationsAreBounded : Type 0
CorrelationsAreBounded = (l : ℕ) (q : Field) (family : Family) (r : ℕ) → IsAtMostOne q → nat_abs (plane_correlation l q family r) ≤ l * (l * l * (l * l))

abbrev pub LinksAreBounded : Type 0
LinksAreBounded = (l : ℕ) (q : Field) → IsAtMostOne q → nat_abs (link_overlap l q) ≤ 3 * volume l

-- numbers at the distances from 0 to l / 2, those between counted twice, are so many squares
abbrev pub HaveSquares : ℕ → (ℕ → ℤ) → ℕ → ℤ → Type 0
HaveSquares count number l squares =
    number 0 +ℤ pos 2 *ℤ sum_of (λ k. number (k + 1)) (l / 2 - 1) +ℤ number (l / 2) ≡ pos count *ℤ squares

-- ---- bins and classes

-- bin 0 is epoch 0, and bin k + 1 has the epochs from 2^k to below 2^(k+1)
abbrev pub BinsAreDigits : Type 0
BinsAreDigits = (f : ℕ) → f < 2 ^ epoch_digits
    → (bin_of f ≡ 0 → f ≡ 0) × ((k : ℕ) → bin_of f ≡ k + 1 → (2 ^ k ≤ f) × (f < 2 ^ (k + 1)))

-- a bin with a measured epoch lies between that of the run's first epoch and that of its last
abbrev pub BinsAreBetween : Type 0
BinsAreBetween = (every k c e : ℕ) → 0 < epochs_in_bin every k c e → (bin_of c ≤ k) × (k ≤ bin_of (e - 1))

-- each overlap is in one class
abbrev pub ClassesAddUp : Type 0
ClassesAddUp = (l : ℕ) (seen : Observed) → sum_of (λ c. term_of l seen (InClass c)) overlap_classes ≡ pos 1

-- ---- runs

-- n is the number of measured epochs, in every sample and slot
abbrev pub NumberIsEpochs : Type 0
NumberIsEpochs = (plan : Plan) (s : Sample) (every e t k : ℕ) → sum_from plan s every e t k Number ≡ pos (epochs_in_bin every k s.epoch e)

-- the sums of a run to epoch m, and those of the run that goes on from there, are those of the whole run
abbrev pub PartsAddUp : Type 0
PartsAddUp = (plan : Plan) (s : Sample) (every m e t k : ℕ) (quantity : Quantity) → s.epoch ≤ m → m ≤ e
    → sum_from plan s every m t k quantity +ℤ sum_from plan (serial plan s m) every e t k quantity ≡ sum_from plan s every e t k quantity

-- so are the numbers of epochs, which say which bins have lines
abbrev pub EpochsAddUp : Type 0
EpochsAddUp = (every k c m e : ℕ) → c ≤ m → m ≤ e → epochs_in_bin every k c m + epochs_in_bin every k m e ≡ epochs_in_bin every k c e

-- ---- a slot's sums while a run goes on

-- where the run begins there are none
abbrev pub SumsBegin : Type 0
SumsBegin = (plan : Plan) (s : Sample) (every t k : ℕ) (quantity : Quantity) → sums_below plan s every t s.epoch k quantity ≡ no_sums k quantity

-- and each epoch of the serial dynamics adds what is observed in it
abbrev pub SumsGrow : Type 0
SumsGrow = (plan : Plan) (s : Sample) (every t e k : ℕ) (quantity : Quantity) → s.epoch ≤ e → sums_below plan s every t (e + 1) k quantity
    ≡ behind_epoch every plan.size e (observed plan (serial plan s e) t) (sums_below plan s every t e) k quantity

-- ---- numbers of one run

-- what is summed up is what the rows of the report have: the energies, and the overlap as the sum over the field
abbrev pub RowsHaveTheSame : Type 0
RowsHaveTheSame = (plan : Plan) (s : Sample) (t : ℕ) → t < slots_of plan
    → ((observed plan s t).first_energy ≡ (record_at (epoch_records plan s) t).first_energy)
    × ((observed plan s t).second_energy ≡ (record_at (epoch_records plan s) t).second_energy)
    × (total_overlap plan.size (observed plan s t).field ≡ (record_at (epoch_records plan s) t).overlap)

-- each epoch is in one bin: the sums over all bins are those over all measured epochs
abbrev pub BinsCoverTheRun : Type 0
BinsCoverTheRun = (term : ℕ → ℤ) (every c e : ℕ)
    → sum_of (λ k. bin_sum term every k c e) most_bins ≡ sum_of (λ j. if is_recorded every (c + j) then term (c + j) else pos 0) (e - c)

-- in each bin the classes have each measured epoch once
abbrev pub HistogramsAddUp : Type 0
HistogramsAddUp = (plan : Plan) (s : Sample) (every e t k : ℕ)
    → sum_of (λ c. sum_from plan s every e t k (InClass c)) overlap_classes ≡ sum_from plan s every e t k Number

-- and the correlations at the distances from 0 to half the side, those between counted twice, are three times the squares of the
-- overlap along the axes, and six times along the diagonals of the faces
abbrev pub DistancesOfBins : Type 0
DistancesOfBins = (plan : Plan) (s : Sample) (every e t k : ℕ) → IsLawfulSize plan.size
    → (HaveSquares 3 (λ r. sum_from plan s every e t k (Axes r)) plan.size (sum_from plan s every e t k OverlapSquares))
    × (HaveSquares 6 (λ r. sum_from plan s every e t k (Faces r)) plan.size (sum_from plan s every e t k OverlapSquares))

-- the sum of the overlap is at most that of its absolute value, twice that of the product of both energies at most that of their
-- squares, and the square of a sum at most as many of the squares' sum as it has terms (Cauchy and Schwarz)
abbrev pub SumsAreBounded : Type 0
SumsAreBounded = (plan : Plan) (s : Sample) (every e t k : ℕ)
    → (pos (nat_abs (sum_from plan s every e t k Overlaps)) ≤ℤ sum_from plan s every e t k Magnitudes)
    × (pos (2 * nat_abs (sum_from plan s every e t k EnergyProducts)) ≤ℤ sum_from plan s every e t k EnergySquares)
    × (square (sum_from plan s every e t k Links) ≤ℤ (sum_from plan s every e t k Number *ℤ sum_from plan s every e t k LinkSquares))
    × (square (sum_from plan s every e t k Overlaps) ≤ℤ (sum_from plan s every e t k Number *ℤ sum_from plan s every e t k OverlapSquares))
