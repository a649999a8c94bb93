-- Correlations of plane sums at a distance, which are what the field's squared Fourier amplitudes at wave vectors across the
-- planes are made from.
use Rattle.std.specs.Prelude.{ℕ, ◌+◌, ◌%◌, ℤ, pos, ◌+ℤ◌, ◌*ℤ◌, List, [], ◌∷◌}
use Rattle.spin_model.specs.SignedSums.{sum_of}
use Rattle.measured_sums.specs.OverlapField.{Field}
use Rattle.measured_sums.specs.PlaneFamilies.{Family, axes, face_diagonals, plane_sum}

-- C: the sum over all planes of a family of P times P of the plane r on, around the boundary
abbrev pub plane_correlation : ℕ → Field → Family → ℕ → ℤ
plane_correlation l q family r = sum_of (λ m. plane_sum l q family m *ℤ plane_sum l q family ((m + r) % l)) l

-- a number's sum over families
unfoldable pub over_families : List Family → (Family → ℤ) → ℤ
over_families [] number = pos 0
over_families (family ∷ families) number = number family +ℤ over_families families number

-- D: the sum of C over the three axes
abbrev pub axis_correlation : ℕ → Field → ℕ → ℤ
axis_correlation l q r = over_families axes (λ family. plane_correlation l q family r)

-- F: the sum of C over the six face diagonals
abbrev pub face_correlation : ℕ → Field → ℕ → ℤ
face_correlation l q r = over_families face_diagonals (λ family. plane_correlation l q family r)
