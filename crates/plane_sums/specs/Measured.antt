-- What an epoch adds to the sums of 64 samples.
use Rattle.std.specs.Prelude.{◌≡◌, ℕ, ◌/◌, ◌<◌, ◌≤◌, ℤ, pos, nat_abs, ◌+ℤ◌, ◌*ℤ◌, ◌==◌, List, [], ◌∷◌, slice_index_or}
use Rattle.spin_model.specs.Words.{one_if}
use Rattle.spin_model.specs.Lattice.{IsLawfulSize}
use Rattle.scalar_rule.specs.Plan.{Plan}
use Rattle.scalar_rule.specs.declared.sample.PlainSlot.{PlainSlot}
use Rattle.measured_sums.specs.EpochBins.{class_of, overlap_classes}
use Rattle.measured_sums.specs.MeasuredSums.{Observed, observed_in, Quantity, Number, Energies, EnergySquares, EnergyProducts, Links, LinkSquares, Overlaps, Magnitudes, OverlapSquares, OverlapFourths, EnergyOverlapSquares, EnergyOverlapFourths, InClass, Axes, Faces, square}
use Rattle.plane_sums.specs.declared.measured.Measured.{Measured}
use Rattle.plane_sums.specs.Correlations.{signed_at}
use Rattle.plane_sums.specs.Fields.{TellsField}

-- of the energies e and f, the link sum a and the overlap q, in the order of `moments` behind the number of epochs
abbrev pub moment_terms : ℤ → ℤ → ℤ → ℤ → List ℤ
moment_terms e f a q =
    (e +ℤ f) ∷ (square e +ℤ square f) ∷ (e *ℤ f) ∷ a ∷ square a ∷ q ∷ pos (nat_abs q) ∷ square q ∷ square (square q)
    ∷ ((e +ℤ f) *ℤ square q) ∷ ((e +ℤ f) *ℤ square (square q)) ∷ []

-- those of sample b
abbrev pub terms_of : Measured → ℕ → List ℤ
terms_of seen b = moment_terms (signed_at seen.first_energies b) (signed_at seen.second_energies b) (signed_at seen.field.links b) (signed_at seen.field.overlaps b)

-- what sample b adds to a quantity
abbrev pub term_in : ℕ → Measured → ℕ → Quantity → ℤ
term_in l seen b Number = pos 1
term_in l seen b Energies = signed_at (terms_of seen b) 0
term_in l seen b EnergySquares = signed_at (terms_of seen b) 1
term_in l seen b EnergyProducts = signed_at (terms_of seen b) 2
term_in l seen b Links = signed_at (terms_of seen b) 3
term_in l seen b LinkSquares = signed_at (terms_of seen b) 4
term_in l seen b Overlaps = signed_at (terms_of seen b) 5
term_in l seen b Magnitudes = signed_at (terms_of seen b) 6
term_in l seen b OverlapSquares = signed_at (terms_of seen b) 7
term_in l seen b OverlapFourths = signed_at (terms_of seen b) 8
term_in l seen b EnergyOverlapSquares = signed_at (terms_of seen b) 9
term_in l seen b EnergyOverlapFourths = signed_at (terms_of seen b) 10
term_in l seen b (InClass c) = pos (one_if (class_of l (signed_at seen.field.overlaps b) == c))
term_in l seen b (Axes r) = signed_at (slice_index_or seen.field.axis r []) b
term_in l seen b (Faces r) = signed_at (slice_index_or seen.field.face r []) b

-- the quantities that have sums at side l: there are 32 classes, and distances up to half the side
abbrev pub HasSum : ℕ → Quantity → Type 0
HasSum l (InClass c) = c < overlap_classes
HasSum l (Axes r) = r ≤ l / 2
HasSum l (Faces r) = r ≤ l / 2
HasSum l quantity = Unit {0}

-- no energy, link sum or overlap is greater than one of side 64 may be
pub record AreSmall (seen : Measured) : Type 0 where
  pub first : (b : ℕ) → b < 64 → nat_abs (signed_at seen.first_energies b) ≤ 786432
  pub second : (b : ℕ) → b < 64 → nat_abs (signed_at seen.second_energies b) ≤ 786432
  pub links : (b : ℕ) → b < 64 → nat_abs (signed_at seen.field.links b) ≤ 786432
  pub overlaps : (b : ℕ) → b < 64 → nat_abs (signed_at seen.field.overlaps b) ≤ 262144

-- nor a correlation at a distance up to half the side
pub record IsWithin (l : ℕ) (seen : Measured) : Type 0 where
  pub moments : AreSmall seen
  pub axis : (r b : ℕ) → r ≤ l / 2 → b < 64 → nat_abs (signed_at (slice_index_or seen.field.axis r []) b) ≤ 3221225472
  pub face : (r b : ℕ) → r ≤ l / 2 → b < 64 → nat_abs (signed_at (slice_index_or seen.field.face r []) b) ≤ 6442450944

-- the numbers are those of what is observed in each sample
pub record Tells (l : ℕ) (seen : Measured) (observed : ℕ → Observed) : Type 0 where
  pub first : (b : ℕ) → b < 64 → signed_at seen.first_energies b ≡ (observed b).first_energy
  pub second : (b : ℕ) → b < 64 → signed_at seen.second_energies b ≡ (observed b).second_energy
  pub field : TellsField l seen.field (λ b. (observed b).field)

-- what is measured of the slots of 64 samples is within
abbrev pub MeasuredIsWithin : Type 0
MeasuredIsWithin = (plan : Plan) (slot : ℕ → PlainSlot) (seen : Measured) → IsLawfulSize plan.size
    → Tells plan.size seen (λ b. observed_in plan b (slot b)) → IsWithin plan.size seen
