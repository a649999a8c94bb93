-- Tables of sums by slot and block, as they are kept.
use Rattle.std.specs.Prelude.{◌≡◌, ℕ, ◌+◌, ◌*◌, ◌<◌, ◌≤◌, ◌-◌, ◌+ℤ◌, ◌-ℤ◌, unsigned_abs, ◌==◌, List, [], length, filter, slice_index_or}
use Rattle.std.specs.List.{AllByRecursion}
use Rattle.sample_average.specs.declared.header.Header.{Header}
use Rattle.sample_average.specs.declared.row.Row.{Row}
use Rattle.sample_average.specs.declared.sums.Sums.{Sums}
use Rattle.sample_average.specs.declared.averages.Averages.TheInside.{Inside}
use Rattle.sample_average.specs.LawfulReport.{IsInRange, IsLawfulHeader}
use Rattle.sample_average.specs.Averages.{energy_of, square_of, fourth_of, sums_of, block_of, AveragesView}
use Rattle.sample_average.specs.ReadReport.{most_report_bytes}

-- with one row more
abbrev pub sums_after : Sums → Row → Sums
sums_after s r = record { rows = s.rows + 1; energy = s.energy +ℤ energy_of r; squares = s.squares + square_of r; fourths = s.fourths + fourth_of r }

-- with a part of the rows taken away
abbrev pub sums_without : Sums → Sums → Sums
sums_without s part = record { rows = s.rows - part.rows; energy = s.energy -ℤ part.energy; squares = s.squares - part.squares; fourths = s.fourths - part.fourths }

-- the sums of at most so many rows
pub record AreSmall (count : ℕ) (s : Sums) : Type 0 where
  pub few : s.rows ≤ count
  pub energy : unsigned_abs s.energy ≤ 2097152 * count
  pub squares : s.squares ≤ 68719476736 * count
  pub fourths : s.fourths ≤ 4722366482869645213696 * count

-- a row of a report with this header
pub record IsRowOfReport (h : Header) (r : Row) : Type 0 where
  pub sample : r.sample < h.samples
  pub slot : r.slot < h.slots
  pub range : IsInRange h r

-- where a table of so many blocks a slot has the sums of a row's slot and block
abbrev pub cell_of : ℕ → ℕ → Row → ℕ
cell_of samples blocks r = r.slot * blocks + block_of samples blocks r.sample

-- the table has for each cell the sums of its rows
pub record Tallies (samples blocks : ℕ) (table : List Sums) (rows : List Row) : Type 0 where
  pub told : (j : ℕ) (d : Sums) → j < length table → slice_index_or table j d ≡ sums_of (filter (λ r. cell_of samples blocks r == j) rows)
  pub small : (j : ℕ) (d : Sums) → j < length table → AreSmall (length rows) (slice_index_or table j d)

-- every cell has the sums of no row
abbrev pub AllNone : List Sums → Type 0
AllNone table = (j : ℕ) (d : Sums) → j < length table → slice_index_or table j d ≡ sums_of []

-- the tables are those of the rows
pub record KeepsAverages (a : Inside) : Type 0 where
  pub lawful : IsLawfulHeader a.header
  pub some : 0 < a.blocks
  pub few : a.blocks ≤ a.header.samples
  pub short : length a.rows ≤ most_report_bytes
  pub fit : AllByRecursion (IsRowOfReport a.header) a.rows
  pub slots : length a.totals ≡ a.header.slots
  pub cells : length a.parts ≡ a.header.slots * a.blocks
  pub totals_told : Tallies a.header.samples 1 a.totals a.rows
  pub parts_told : Tallies a.header.samples a.blocks a.parts a.rows

abbrev pub averages_view : Inside → AveragesView
averages_view a = record { header = a.header; rows = a.rows; blocks = a.blocks }
