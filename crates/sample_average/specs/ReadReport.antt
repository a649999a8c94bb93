-- A report as a function of its bytes: what its lines give one after the other, or the number of the first that gives nothing.
use Rattle.std.specs.Prelude.{◌≡◌, ℕ, zero, suc, ◌+◌, ◌≤◌, nat_lt, if◌then◌else◌, List, [], ◌∷◌, ◌++◌, length, Option, Some, None, Result, Ok, Err}
use Rattle.sample_average.specs.declared.header.Header.{Header}
use Rattle.sample_average.specs.declared.row.Row.{Row}
use Rattle.sample_average.specs.declared.place.Place.{Place}
use Rattle.sample_average.specs.declared.place.Place.TheVariants as places
use Rattle.sample_average.specs.declared.place.Step.{Step}
use Rattle.sample_average.specs.declared.refused.ReportRefused.{ReportRefused}
use Rattle.sample_average.specs.declared.refused.ReportRefused.TheVariants as refused
use Rattle.sample_average.specs.LawfulReport.{IsReading}
use Rattle.sample_average.specs.LineReading.{header_at}
use Rattle.sample_average.specs.Following.{line_at, may_end, is_lawful, row_then}
use Rattle.sample_average.specs.Averages.{AveragesView, IsRefusal}

-- the most bytes of a report that is read: it has fewer rows than bytes, and no sum over so many rows wraps
abbrev pub most_report_bytes : ℕ
most_report_bytes = 67108864

-- ---- line by line

-- what comes of a line that may stand here, or where none may
abbrev pub line_or : {A : Type 0} → Option (Step × List ℕ) → A → (Step × List ℕ → A) → A
line_or None stop next = stop
line_or (Some x) stop next = next x

-- where no line may stand: the rows that were seen, where the bytes end and a report may, or else the line's number
abbrev pub rows_at_end : Header → Place → ℕ → List Row → List ℕ → Result (List Row) ℕ
rows_at_end h place line seen [] = if may_end h place then Ok seen else Err line
rows_at_end h place line seen (b ∷ bytes) = Err line

-- the rows of the lines from this place on, behind those that were seen, over at most so many lines
unfoldable pub rows_from : ℕ → Header → Place → ℕ → List Row → List ℕ → Result (List Row) ℕ
rows_from zero h place line seen bytes = Err line
rows_from (suc most) h place line seen bytes =
    line_or (line_at h place bytes) (rows_at_end h place line seen bytes) (λ x. rows_from most h x.0.place (line + 1) (seen ++ row_then x.0.row []) x.1)

-- each line has a byte, so there are at most as many as bytes
abbrev pub rows_behind : Header → List ℕ → Result (List Row) ℕ
rows_behind h bytes = rows_from (length bytes + 1) h (places.Between h.from) 1 [] bytes

-- ---- the whole report

abbrev pub with_header : Header → Result (List Row) ℕ → Result (Header × List Row) ℕ
with_header h (Ok rows) = Ok (h, rows)
with_header h (Err line) = Err line

abbrev pub report_behind : Option (Header × List ℕ) → Result (Header × List Row) ℕ
report_behind None = Err 0
report_behind (Some x) = if is_lawful x.0 then with_header x.0 (rows_behind x.0 x.1) else Err 0

-- the header and the rows of a report, or the number of its first wrong line
unfoldable pub report_in : List ℕ → Result (Header × List Row) ℕ
report_in bytes = report_behind (header_at bytes)

abbrev pub averaged : ℕ → Result (Header × List Row) ℕ → Result AveragesView ReportRefused
averaged blocks (Err line) = Err (refused.Line line)
averaged blocks (Ok x) = if nat_lt x.0.samples blocks then Err (refused.Blocks blocks x.0.samples) else Ok (record { header = x.0; rows = x.1; blocks = blocks })

-- what so many blocks of a report's samples are taken of, or why they are not
abbrev pub averages_in : ℕ → List ℕ → Result AveragesView ReportRefused
averages_in blocks bytes = averaged blocks (report_in bytes)

-- ---- what this says of lawful reports

-- what is read is the one lawful report that these bytes spell, and a refusal is due by the definitions
abbrev pub IsOfReport : List ℕ → ℕ → Result AveragesView ReportRefused → Type 0
IsOfReport bytes blocks (Ok a) = IsReading bytes a.header a.rows × (a.blocks ≡ blocks) × (blocks ≤ a.header.samples)
IsOfReport bytes blocks (Err e) = IsRefusal bytes blocks e × ¬ (e ≡ refused.NoMemory)

-- all bytes are read so
abbrev pub AveragesAreOfTheReport : Type 0
AveragesAreOfTheReport = (bytes : List ℕ) (blocks : ℕ) → IsOfReport bytes blocks (averages_in blocks bytes)
