-- What is measured of a slot in an epoch, and its sums over the measured epochs of a bin.
use Rattle.std.specs.Prelude.{ℕ, ◌+◌, ◌-◌, ◌/◌, ℤ, pos, nat_abs, ◌+ℤ◌, ◌*ℤ◌, Bool, ◌&&◌, ◌==◌, if◌then◌else◌, List, [], ◌∷◌}
use Rattle.spin_model.specs.Words.{one_if}
use Rattle.spin_model.specs.Steps.{count_below, table}
use Rattle.spin_model.specs.SignedSums.{sum_of}
use Rattle.scalar_rule.specs.Plan.{Plan}
use Rattle.scalar_rule.specs.Epoch.{record_of, slot_at, swept_slot}
use Rattle.scalar_rule.specs.Serial.{serial}
use Rattle.scalar_rule.specs.Records.{is_recorded}
use Rattle.scalar_rule.specs.declared.sample.PlainSlot.{PlainSlot}
use Rattle.scalar_rule.specs.declared.sample.Sample.{Sample}
use Rattle.measured_sums.specs.OverlapField.{Field, site_overlap, total_overlap, link_overlap}
use Rattle.measured_sums.specs.PlaneCorrelations.{axis_correlation, face_correlation}
use Rattle.measured_sums.specs.EpochBins.{bin_of, class_of, overlap_classes}

-- ---- one epoch

-- the energies of both replicas, and the field of their overlap
pub record Observed : Type 0 where
  pub first_energy : ℤ
  pub second_energy : ℤ
  pub field : Field

-- those of a slot of sample b
abbrev pub observed_in : Plan → ℕ → PlainSlot → Observed
observed_in plan b slot = record {
  first_energy = (record_of plan b slot).first_energy;
  second_energy = (record_of plan b slot).second_energy;
  field = site_overlap slot.first.spins slot.second.spins;
}

-- what is measured of slot t in the epoch of a state: after its sweeps, before its exchange
abbrev pub observed : Plan → Sample → ℕ → Observed
observed plan s t = observed_in plan s.bit (swept_slot plan s.bit t (slot_at s.slots t))

abbrev pub square : ℤ → ℤ
square z = z *ℤ z

-- the quantities that are summed up: 1, E + E', E^2 + E'^2, E E', A, A^2, Q, |Q|, Q^2, Q^4, (E + E') Q^2, (E + E') Q^4; whether Q is
-- in a class; D and F at a distance
pub data Quantity : Type 0 where
  Number : Quantity
  Energies : Quantity
  EnergySquares : Quantity
  EnergyProducts : Quantity
  Links : Quantity
  LinkSquares : Quantity
  Overlaps : Quantity
  Magnitudes : Quantity
  OverlapSquares : Quantity
  OverlapFourths : Quantity
  EnergyOverlapSquares : Quantity
  EnergyOverlapFourths : Quantity
  InClass : ℕ → Quantity
  Axes : ℕ → Quantity
  Faces : ℕ → Quantity

-- what one measured epoch adds to a quantity
abbrev pub term_of : ℕ → Observed → Quantity → ℤ
term_of l seen Number = pos 1
term_of l seen Energies = seen.first_energy +ℤ seen.second_energy
term_of l seen EnergySquares = square seen.first_energy +ℤ square seen.second_energy
term_of l seen EnergyProducts = seen.first_energy *ℤ seen.second_energy
term_of l seen Links = link_overlap l seen.field
term_of l seen LinkSquares = square (link_overlap l seen.field)
term_of l seen Overlaps = total_overlap l seen.field
term_of l seen Magnitudes = pos (nat_abs (total_overlap l seen.field))
term_of l seen OverlapSquares = square (total_overlap l seen.field)
term_of l seen OverlapFourths = square (square (total_overlap l seen.field))
term_of l seen EnergyOverlapSquares = (seen.first_energy +ℤ seen.second_energy) *ℤ square (total_overlap l seen.field)
term_of l seen EnergyOverlapFourths = (seen.first_energy +ℤ seen.second_energy) *ℤ square (square (total_overlap l seen.field))
term_of l seen (InClass c) = pos (one_if (class_of l (total_overlap l seen.field) == c))
term_of l seen (Axes r) = axis_correlation l seen.field r
term_of l seen (Faces r) = face_correlation l seen.field r

-- ---- sums

-- epoch f is measured, and in bin k
abbrev pub is_measured : ℕ → ℕ → ℕ → Bool
is_measured every k f = is_recorded every f && (bin_of f == k)

-- the sum of a term over the measured epochs of bin k from c on and below e
abbrev pub bin_sum : (ℕ → ℤ) → ℕ → ℕ → ℕ → ℕ → ℤ
bin_sum term every k c e = sum_of (λ j. if is_measured every k (c + j) then term (c + j) else pos 0) (e - c)

-- how many these are
abbrev pub epochs_in_bin : ℕ → ℕ → ℕ → ℕ → ℕ
epochs_in_bin every k c e = count_below (λ j. is_measured every k (c + j)) (e - c)

-- the sum of a quantity in slot t and bin k over a run to epoch e from a sample's state, by the serial dynamics
abbrev pub sum_from : Plan → Sample → ℕ → ℕ → ℕ → ℕ → Quantity → ℤ
sum_from plan s every e t k quantity = bin_sum (λ f. term_of plan.size (observed plan (serial plan s f) t) quantity) every k s.epoch e

-- ---- in the order of the text

abbrev pub moments : List Quantity
moments =
    Number ∷ Energies ∷ EnergySquares ∷ EnergyProducts ∷ Links ∷ LinkSquares ∷ Overlaps ∷ Magnitudes ∷ OverlapSquares ∷ OverlapFourths
    ∷ EnergyOverlapSquares ∷ EnergyOverlapFourths ∷ []

abbrev pub classes : List Quantity
classes = table InClass overlap_classes

-- distances from 0 to half the side
abbrev pub axis_distances : ℕ → List Quantity
axis_distances l = table Axes (l / 2 + 1)

abbrev pub face_distances : ℕ → List Quantity
face_distances l = table Faces (l / 2 + 1)
