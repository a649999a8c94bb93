-- The lawful reports: a header, groups of rows, an end, and the spins of all replicas or of none.
use Rattle.std.specs.Prelude.{◌≡◌, ℕ, ◌+◌, ◌*◌, ◌/◌, ◌%◌, ◌<◌, ◌≤◌, ◌⊎◌, unsigned_abs, Bool, true, ◌&&◌, ◌||◌, nat_le, ◌==◌, if◌then◌else◌, List, [], ◌∷◌, ◌++◌, length, map, take, flat_map, codes, decimal}
use Rattle.std.specs.Fmt.{signed_decimal}
use Rattle.std.specs.List.{AllByRecursion, list_all, concat}
use Rattle.spin_model.specs.Limits.{last_epoch, most_samples, most_slots}
use Rattle.sample_average.specs.declared.header.Header.{Header}
use Rattle.sample_average.specs.declared.header.Rule.{Rule}
use Rattle.sample_average.specs.declared.header.Rule.TheVariants as rules_of
use Rattle.sample_average.specs.declared.row.Row.{Row}

-- ---- the numbers of a report

-- the number of sites, V
abbrev pub sites : Header → ℕ
sites h = h.size * h.size * h.size

-- the number of pairs of a sample and a slot, each of which has one row in a group
abbrev pub pairs : Header → ℕ
pairs h = h.samples * h.slots

pub record IsLawfulHeader (h : Header) : Type 0 where
  pub even : h.size % 2 ≡ 0
  pub least : 4 ≤ h.size
  pub most : h.size ≤ 64
  pub some_slots : 1 ≤ h.slots
  pub few_slots : h.slots ≤ most_slots
  pub some_samples : 1 ≤ h.samples
  pub few_samples : h.samples ≤ most_samples
  pub rising : h.from ≤ h.to
  pub until : h.to ≤ last_epoch

-- energies lie from -3V to 3V, overlaps from -V to V, and a replica has the number of a slot
pub record IsInRange (h : Header) (r : Row) : Type 0 where
  pub first_energy : unsigned_abs r.first_energy ≤ 3 * sites h
  pub second_energy : unsigned_abs r.second_energy ≤ 3 * sites h
  pub overlap : unsigned_abs r.overlap ≤ sites h
  pub first_replica : r.first_replica < h.slots
  pub second_replica : r.second_replica < h.slots

-- a row of this epoch and this pair; pairs are numbered in order of sample, then slot
pub record IsRowOf (h : Header) (epoch pair : ℕ) (r : Row) : Type 0 where
  pub at_epoch : r.epoch ≡ epoch
  pub of_sample : r.sample ≡ pair / h.slots
  pub of_slot : r.slot ≡ pair % h.slots
  pub range : IsInRange h r

-- the rows of an epoch for the pairs in order, from this pair on
abbrev pub AreRowsFrom : Header → ℕ → ℕ → List Row → Type 0
AreRowsFrom h epoch pair [] = Unit {0}
AreRowsFrom h epoch pair (r ∷ rows) = IsRowOf h epoch pair r × AreRowsFrom h epoch (pair + 1) rows

-- the rows of one epoch, one for each pair
pub record IsGroup (h : Header) (epoch : ℕ) (rows : List Row) : Type 0 where
  pub whole : length rows ≡ pairs h
  pub in_order : AreRowsFrom h epoch 0 rows

-- groups of rows whose epochs strictly rise, from the least one on and below the end
abbrev pub AreGroups : Header → ℕ → List (List Row) → Type 0
AreGroups h least [] = Unit {0}
AreGroups h least (rows ∷ groups) = (epoch : ℕ) × (least ≤ epoch) × (epoch < h.to) × IsGroup h epoch rows × AreGroups h (epoch + 1) groups

-- a lower-case hexadecimal digit
abbrev pub is_hex : ℕ → Bool
is_hex b = (nat_le 48 b && nat_le b 57) || (nat_le 97 b && nat_le b 102)

-- the spins of a replica, four sites a digit
pub record AreDigits (h : Header) (digits : List ℕ) : Type 0 where
  pub count : length digits ≡ sites h / 4
  pub hex : list_all is_hex digits ≡ true

-- the spins of no replica, or of all
abbrev pub AreSpins : Header → List (List ℕ) → Type 0
AreSpins h spins = (spins ≡ []) ⊎ ((length spins ≡ 2 * pairs h) × AllByRecursion (AreDigits h) spins)

pub record Report : Type 0 where
  pub header : Header
  pub groups : List (List Row)
  pub spins : List (List ℕ)

pub record IsLawful (r : Report) : Type 0 where
  pub header : IsLawfulHeader r.header
  pub groups : AreGroups r.header r.header.from r.groups
  pub spins : AreSpins r.header r.spins

-- the plain list of the rows
abbrev pub rows_of : Report → List Row
rows_of r = flat_map (λ rows. rows) r.groups

-- ---- its lines, each ended by one line feed

abbrev pub rule_text : Rule → List ℕ
rule_text rules_of.Heat = codes "heat"
rule_text rules_of.Metropolis = codes "metropolis"

unfoldable pub header_line : Header → List ℕ
header_line h =
    codes "glass 1 size=" ++ decimal h.size ++ codes " slots=" ++ decimal h.slots ++ codes " samples=" ++ decimal h.samples
    ++ codes " rule=" ++ rule_text h.rule ++ codes " from=" ++ decimal h.from ++ codes " to=" ++ decimal h.to ++ codes "\n"

unfoldable pub row_line : Row → List ℕ
row_line r =
    codes "row," ++ decimal r.epoch ++ codes "," ++ decimal r.sample ++ codes "," ++ decimal r.slot ++ codes "," ++ signed_decimal r.first_energy
    ++ codes "," ++ signed_decimal r.second_energy ++ codes "," ++ signed_decimal r.overlap ++ codes ","
    ++ decimal r.first_replica ++ codes "," ++ decimal r.second_replica ++ codes "\n"

unfoldable pub end_line : ℕ → List ℕ
end_line epoch = codes "end," ++ decimal epoch ++ codes "\n"

-- the spins of replica k; replicas are numbered in order of sample, slot and copy
unfoldable pub spin_head : Header → ℕ → List ℕ
spin_head h k = codes "spin," ++ decimal (k / 2 / h.slots) ++ codes "," ++ decimal (k / 2 % h.slots) ++ codes "," ++ decimal (k % 2) ++ codes ","

unfoldable pub spin_line : Header → ℕ → List ℕ → List ℕ
spin_line h k digits = spin_head h k ++ digits ++ codes "\n"

-- the lines of the replicas in order, from this replica on
abbrev pub spin_lines : Header → ℕ → List (List ℕ) → List (List ℕ)
spin_lines h k [] = []
spin_lines h k (digits ∷ spins) = spin_line h k digits ∷ spin_lines h (k + 1) spins

abbrev pub report_lines : Report → List (List ℕ)
report_lines r = header_line r.header ∷ (map row_line (rows_of r) ++ (end_line r.header.to ∷ spin_lines r.header 0 r.spins))

-- these bytes are the lines of this report, and the report is lawful
pub record Spells (bytes : List ℕ) (r : Report) : Type 0 where
  pub lawful : IsLawful r
  pub text : bytes ≡ concat (report_lines r)

-- ---- the first wrong line

-- a byte put before the first line
abbrev pub onto_first : ℕ → List (List ℕ) → List (List ℕ)
onto_first b [] = (b ∷ []) ∷ []
onto_first b (line ∷ lines) = (b ∷ line) ∷ lines

-- the lines of a text, each with its line feed; bytes after the last line feed are a line without one
unfoldable pub lines : List ℕ → List (List ℕ)
lines [] = []
lines (b ∷ bytes) = if b == 10 then (10 ∷ []) ∷ lines bytes else onto_first b (lines bytes)

-- these are the first lines of some lawful report
abbrev pub Begins : List (List ℕ) → Type 0
Begins front = (r : Report) × IsLawful r × (more : List (List ℕ)) × (report_lines r ≡ front ++ more)

-- line n is the first for which it and those before it are the first lines of no lawful report; where there is
-- no such line, n is the number of lines
pub record IsFirstWrong (text : List (List ℕ)) (n : ℕ) : Type 0 where
  pub within : n ≤ length text
  pub before : (k : ℕ) → k < n → Begins (take (k + 1) text)
  pub wrong : n < length text → ¬ (Begins (take (n + 1) text))

-- the bytes are no lawful report, and line n is the first wrong one
pub record IsWrongAt (bytes : List ℕ) (n : ℕ) : Type 0 where
  pub unlawful : (r : Report) → ¬ (Spells bytes r)
  pub first : IsFirstWrong (lines bytes) n

-- the bytes are a lawful report with this header and these rows, and with no others
pub record IsReading (bytes : List ℕ) (h : Header) (rows : List Row) : Type 0 where
  pub report : Report
  pub spelled : Spells bytes report
  pub its_header : report.header ≡ h
  pub its_rows : rows_of report ≡ rows
  pub only : (r : Report) → Spells bytes r → (r.header ≡ h) × (rows_of r ≡ rows)
