-- When numbers of 64 samples are the sums of a field.
use Rattle.std.specs.Prelude.{◌≡◌, ℕ, ◌/◌, ◌<◌, ◌≤◌, [], slice_index_or}
use Rattle.measured_sums.specs.OverlapField.{Field, total_overlap, link_overlap}
use Rattle.measured_sums.specs.PlaneCorrelations.{axis_correlation, face_correlation}
use Rattle.plane_sums.specs.declared.fields.FieldSums.{FieldSums}
use Rattle.plane_sums.specs.Correlations.{signed_at}

-- of the field `field b` in sample b
pub record TellsField (l : ℕ) (sums : FieldSums) (field : ℕ → Field) : Type 0 where
  pub links : (b : ℕ) → b < 64 → signed_at sums.links b ≡ link_overlap l (field b)
  pub overlaps : (b : ℕ) → b < 64 → signed_at sums.overlaps b ≡ total_overlap l (field b)
  pub axis : (r b : ℕ) → r ≤ l / 2 → b < 64 → signed_at (slice_index_or sums.axis r []) b ≡ axis_correlation l (field b) r
  pub face : (r b : ℕ) → r ≤ l / 2 → b < 64 → signed_at (slice_index_or sums.face r []) b ≡ face_correlation l (field b) r
