-- What projections have once some planes are counted.
use Rattle.std.specs.Prelude.{ℕ, ◌≡◌, ◌*◌, ◌%◌, ◌<◌, Bool, length}
use Rattle.plane_sums.specs.declared.projections.Projections.{Projections}
use Rattle.plane_sums.specs.declared.projections.Sheets.{Sheets}
use Rattle.plane_sums.specs.Counts.{count_at, line_at}
use Rattle.plane_sums.specs.Lines.{along_x, along_y}

-- the lines along x and y in the first n planes have their counts of a test, twice
pub record AreProjected (l : ℕ) (test : ℕ → ℕ → Bool) (n : ℕ) (p : Projections) : Type 0 where
  pub x : (z k b : ℕ) → z < n → k < 2 * l → b < 64 → count_at (line_at p.along_x z) k b ≡ along_x l (test b) z (k % l)
  pub y : (z k b : ℕ) → z < n → k < 2 * l → b < 64 → count_at (line_at p.along_y z) k b ≡ along_y l (test b) z (k % l)

-- sheets have 64 rows each
pub record AreSheets (s : Sheets) : Type 0 where
  pub front : length s.front ≡ 64
  pub back : length s.back ≡ 64
  pub turned : length s.turned ≡ 64
