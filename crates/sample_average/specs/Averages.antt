-- Sums over the rows of a report by temperature slot and block of samples, and their text.
use Rattle.std.specs.Prelude.{◌≡◌, ℕ, zero, suc, ◌*◌, ◌/◌, ◌<◌, ◌≤◌, ℤ, pos, ◌+ℤ◌, unsigned_abs, not, ◌==◌, List, [], ◌++◌, length, filter, fold, sum_by, codes, decimal}
use Rattle.std.specs.Fmt.{signed_decimal}
use Rattle.sample_average.specs.declared.header.Header.{Header}
use Rattle.sample_average.specs.declared.row.Row.{Row}
use Rattle.sample_average.specs.declared.sums.Sums.{Sums}
use Rattle.sample_average.specs.declared.refused.ReportRefused.{ReportRefused}
use Rattle.sample_average.specs.declared.refused.ReportRefused.TheVariants as refused
use Rattle.sample_average.specs.LawfulReport.{IsReading, IsWrongAt}

-- ---- the sums of a list of rows

-- the energy of both replicas, E0 + E1
abbrev pub energy_of : Row → ℤ
energy_of r = r.first_energy +ℤ r.second_energy

-- the overlap to the power 2
abbrev pub square_of : Row → ℕ
square_of r = unsigned_abs r.overlap * unsigned_abs r.overlap

-- the overlap to the power 4
abbrev pub fourth_of : Row → ℕ
fourth_of r = square_of r * square_of r

-- how many rows, and the sums of E0 + E1, of q^2 and of q^4 over them
abbrev pub sums_of : List Row → Sums
sums_of rows = record {
  rows = length rows;
  energy = fold (λ e r. e +ℤ energy_of r) (pos 0) rows;
  squares = sum_by square_of rows;
  fourths = sum_by fourth_of rows;
}

-- ---- slots and blocks

-- a report's header and its rows, and the number of blocks of its samples
pub record AveragesView : Type 0 where
  pub header : Header
  pub rows : List Row
  pub blocks : ℕ

-- the block of a sample: blocks of consecutive samples, as equal in size as may be
abbrev pub block_of : ℕ → ℕ → ℕ → ℕ
block_of samples blocks sample = sample * blocks / samples

-- the rows of a slot
abbrev pub slot_rows : AveragesView → ℕ → List Row
slot_rows a slot = filter (λ r. r.slot == slot) a.rows

-- the rows of a slot of the samples outside a block
abbrev pub rows_without : AveragesView → ℕ → ℕ → List Row
rows_without a slot block = filter (λ r. not (block_of a.header.samples a.blocks r.sample == block)) (slot_rows a slot)

-- ---- the text

-- the first so many pieces
unfoldable pub pieces : (ℕ → List ℕ) → ℕ → List ℕ
pieces f zero = []
pieces f (suc n) = pieces f n ++ f n

unfoldable pub first_line : Header → ℕ → ℕ → List ℕ
first_line h blocks rows =
    codes "average 1 size=" ++ decimal h.size ++ codes " slots=" ++ decimal h.slots ++ codes " samples=" ++ decimal h.samples
    ++ codes " blocks=" ++ decimal blocks ++ codes " rows=" ++ decimal rows ++ codes "\n"

-- sums at the end of a line
abbrev pub sums_text : Sums → List ℕ
sums_text s = decimal s.rows ++ codes "," ++ signed_decimal s.energy ++ codes "," ++ decimal s.squares ++ codes "," ++ decimal s.fourths ++ codes "\n"

unfoldable pub sum_line : ℕ → Sums → List ℕ
sum_line slot s = codes "sum," ++ decimal slot ++ codes "," ++ sums_text s

unfoldable pub without_line : ℕ → ℕ → Sums → List ℕ
without_line slot block s = codes "without," ++ decimal slot ++ codes "," ++ decimal block ++ codes "," ++ sums_text s

-- the lines of a slot: over all its rows, and over those outside each block
abbrev pub slot_text : AveragesView → ℕ → List ℕ
slot_text a slot = sum_line slot (sums_of (slot_rows a slot)) ++ pieces (λ block. without_line slot block (sums_of (rows_without a slot block))) a.blocks

abbrev pub averages_text : AveragesView → List ℕ
averages_text a = first_line a.header a.blocks (length a.rows) ++ pieces (slot_text a) a.header.slots ++ codes "end\n"

-- ---- refusals

-- why a report is refused: a wrong line; else too few samples for so many blocks; else memory, which is asked for
-- after both tests
abbrev pub IsRefusal : List ℕ → ℕ → ReportRefused → Type 0
IsRefusal bytes blocks (refused.Line line) = IsWrongAt bytes line
IsRefusal bytes blocks (refused.Blocks wanted samples) = (h : Header) × (rows : List Row) × IsReading bytes h rows × (wanted ≡ blocks) × (samples ≡ h.samples) × (samples < blocks)
IsRefusal bytes blocks refused.NoMemory = (h : Header) × (rows : List Row) × IsReading bytes h rows × (blocks ≤ h.samples)
