-- The text of a table of thresholds: comma-separated whole numbers, a record a line, with no header line and no quoted
-- field. This profile is the project's own. What the text says and its first refusal are told apart.
use Rattle.std.specs.Prelude.{ℕ, ◌-◌, Bool, not, ◌&&◌, ◌||◌, ◌==◌, nat_le, nat_lt, if◌then◌else◌, List, length, take, drop, map, slice_index, Option, Some, None, Result}
use Rattle.std.specs.List.{slice_split, filter, prefix_len, suffix_len, list_all}
use Rattle.glass_edges.specs.Decimal.{is_numeral, value_of}
use Rattle.glass_edges.specs.Refusals.{or_else, first_found, unless}
use Rattle.spin_model.specs.Limits.{certain}
use Rattle.threshold_table.specs.declared.bounds.Bounds.{Bounds}
use Rattle.threshold_table.specs.declared.refused.TableRefused.{TableRefused}
use Rattle.threshold_table.specs.declared.refused.TableRefused.TheVariants as refused

-- ---- bytes, lines and fields

-- the bytes without the byte order mark (239, 187, 191) that they may begin with
unfoldable pub without_mark : List ℕ → List ℕ
without_mark bytes =
    if slice_index bytes 0 == 239 && slice_index bytes 1 == 187 && slice_index bytes 2 == 191
    then drop 3 bytes
    else bytes

-- a line ends at a line feed, at a carriage return, or where the text ends
abbrev pub is_line_end : ℕ → Bool
is_line_end b = b == 10 || b == 13

-- a byte that may stand in a table: the end of a line, or a printable one but the double quote
abbrev pub is_lawful : ℕ → Bool
is_lawful b = is_line_end b || (nat_le 32 b && nat_le b 126 && not (b == 34))

-- whether a line has a byte at all
abbrev pub has_bytes : List ℕ → Bool
has_bytes line = nat_le 1 (length line)

-- the records: the lines that have at least one byte, in their order
unfoldable pub records : List ℕ → List (List ℕ)
records text = filter has_bytes (slice_split is_line_end text)

-- 44 is the comma
abbrev pub is_comma : ℕ → Bool
is_comma b = b == 44

-- the fields of a record: what stands before, between and after its commas
unfoldable pub fields : List ℕ → List (List ℕ)
fields line = slice_split is_comma line

-- ---- the number in a field

-- 32 is the space
abbrev pub is_space : ℕ → Bool
is_space b = b == 32

-- without the spaces in front
abbrev pub without_front : List ℕ → List ℕ
without_front field = drop (prefix_len is_space field) field

-- without the spaces behind
abbrev pub without_back : List ℕ → List ℕ
without_back field = take (length field - suffix_len is_space field) field

-- a field without the spaces at both its ends
unfoldable pub trimmed : List ℕ → List ℕ
trimmed field = without_back (without_front field)

-- a number is written with one to ten decimal digits
abbrev pub is_number : List ℕ → Bool
is_number text = is_numeral 10 text

-- the number that a field says
abbrev pub field_value : List ℕ → ℕ
field_value field = value_of (trimmed field)

-- the numbers of a record
abbrev pub record_values : List ℕ → List ℕ
record_values line = map field_value (fields line)

-- ---- the first refusal

-- a field must be a number, and its value at most 2 ^ 32
unfoldable pub field_refusal : ℕ → ℕ → List ℕ → Option TableRefused
field_refusal at field text =
    if is_number (trimmed text)
    then (if nat_le (field_value text) certain then None else Some (refused.TooGreat at field (field_value text)))
    else Some (refused.Number at field)

-- whether a count lies between two bounds, both included
abbrev pub is_within : Bounds → ℕ → Bool
is_within bounds n = nat_le bounds.least n && nat_le n bounds.most

-- a record's number of fields is tested before any of them, and then field by field
unfoldable pub record_refusal : Bounds → ℕ → List ℕ → Option TableRefused
record_refusal width at line =
    if is_within width (length (fields line))
    then first_found (field_refusal at) 0 (fields line)
    else Some (refused.Fields at (length (fields line)) width.most)

-- the number of records must be within the bounds; the bound that it misses is told
abbrev pub count_refusal : Bounds → ℕ → Option TableRefused
count_refusal height n =
    if nat_lt n height.least
    then Some (refused.Records n height.least)
    else if nat_le n height.most then None else Some (refused.Records n height.most)

-- record by record, and their number last
abbrev pub records_refusal : Bounds → Bounds → List (List ℕ) → Option TableRefused
records_refusal width height lines =
    or_else (first_found (record_refusal width) 0 lines) (count_refusal height (length lines))

-- the bytes come before all records
abbrev pub table_refusal : Bounds → Bounds → List ℕ → Option TableRefused
table_refusal width height bytes =
    if list_all is_lawful (without_mark bytes)
    then records_refusal width height (records (without_mark bytes))
    else Some refused.Csv

-- ---- what the text says

-- the numbers of the records
abbrev pub rows_of : List ℕ → List (List ℕ)
rows_of bytes = map record_values (records (without_mark bytes))

-- the table that the bytes are, with width numbers in a record and height records, or its first refusal
unfoldable pub table_of : Bounds → Bounds → List ℕ → Result (List (List ℕ)) TableRefused
table_of width height bytes = unless (table_refusal width height bytes) (rows_of bytes)
