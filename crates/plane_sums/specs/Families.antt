-- The order of the families of planes, and what lines have of a test.
use Rattle.std.specs.Prelude.{ℕ, ◌≡◌, ◌*◌, ◌%◌, ◌<◌, ◌≤◌, Bool, ◌++◌, length, slice_index_or}
use Rattle.measured_sums.specs.PlaneFamilies.{Family, DifferenceYZ, axes, face_diagonals}
use Rattle.plane_sums.specs.declared.projections.Projections.{Projections}
use Rattle.plane_sums.specs.Counts.{count_at, line_at}
use Rattle.plane_sums.specs.Lines.{along_x, along_y, along_z}

-- family 0 to 8: the axes, then the diagonals of the faces
abbrev pub family_at : ℕ → Family
family_at f = slice_index_or (axes ++ face_diagonals) f DifferenceYZ

-- all lines have their counts of a test, twice
pub record HasLines (l : ℕ) (test : ℕ → ℕ → Bool) (p : Projections) : Type 0 where
  pub x : (z k b : ℕ) → z < l → k < 2 * l → b < 64 → count_at (line_at p.along_x z) k b ≡ along_x l (test b) z (k % l)
  pub y : (z k b : ℕ) → z < l → k < 2 * l → b < 64 → count_at (line_at p.along_y z) k b ≡ along_y l (test b) z (k % l)
  pub z : (y k b : ℕ) → y < l → k < 2 * l → b < 64 → count_at (line_at p.along_z y) k b ≡ along_z l (test b) y (k % l)

-- there is room for 64 lines along each axis
pub record HasRoom (p : Projections) : Type 0 where
  pub x : length p.along_x ≡ 64
  pub y : length p.along_y ≡ 64
  pub z : length p.along_z ≡ 64

-- no count along a line of the first ones is above the side
pub record AreCounts (l : ℕ) (p : Projections) : Type 0 where
  pub x : (z k b : ℕ) → z < l → k < 2 * l → b < 64 → count_at (line_at p.along_x z) k b ≤ l
  pub y : (z k b : ℕ) → z < l → k < 2 * l → b < 64 → count_at (line_at p.along_y z) k b ≤ l
  pub z : (y k b : ℕ) → y < l → k < 2 * l → b < 64 → count_at (line_at p.along_z y) k b ≤ l
