-- The two tables of thresholds. A threshold is a whole number from 0 to 2 ^ 32 that stands for a probability times
-- 2 ^ 32: a case happens where its draw, a word of 32 bits, is below the threshold.
use Rattle.std.specs.Prelude.{ℕ, ◌-◌, ◌≤◌, ◌++◌, Bool, ◌&&◌, ◌==◌, nat_le, List, [], length, take, drop, replicate, slice_index, slice_index_or, Result}
use Rattle.std.specs.List.{All, list_all}
use Rattle.glass_edges.specs.Refusals.{unless}
use Rattle.spin_model.specs.Limits.{certain, most_slots}
use Rattle.spin_model.specs.SiteRule.{Rule, HeatBath, Metropolis}
use Rattle.threshold_table.specs.declared.bounds.Bounds.{Bounds}
use Rattle.threshold_table.specs.declared.refused.TableRefused.{TableRefused}
use Rattle.threshold_table.specs.declared.rule_table.RuleKind.{RuleKind}
use Rattle.threshold_table.specs.declared.rule_table.RuleKind.TheVariants as kinds
use Rattle.threshold_table.specs.declared.rule_table.RuleRow.{RuleRow}
use Rattle.threshold_table.specs.TableText.{table_refusal, table_of, rows_of}

-- ---- rows of thresholds

-- a row's length is within the bounds, and each of its numbers is a threshold
pub record IsLawfulRow (width : Bounds) (row : List ℕ) : Type 0 where
  pub least : width.least ≤ length row
  pub most : length row ≤ width.most
  pub limited : All (λ n. n ≤ certain) row

-- whether numbers are thresholds
abbrev pub are_thresholds : List ℕ → Bool
are_thresholds row = list_all (λ n. nat_le n certain) row

-- ---- the rule table: one row per temperature slot, slot 0 the coldest

-- the dynamics of a kind of table
abbrev pub rule_of : RuleKind → Rule
rule_of kinds.Heat = HeatBath
rule_of kinds.Metropolis = Metropolis

-- the thresholds of a slot: for heat bath one for each number 0 to 6 of aligned neighbours, for Metropolis one for each
-- number 4 to 6 of satisfied bonds
abbrev pub cases_of : RuleKind → ℕ
cases_of kinds.Heat = 7
cases_of kinds.Metropolis = 3

-- a rule table: its kind, and the thresholds of each slot
pub record RuleView : Type 0 where
  pub kind : RuleKind
  pub rows : List (List ℕ)

-- the thresholds of a slot, case by case
abbrev pub thresholds_of : RuleView → ℕ → List ℕ
thresholds_of table slot = slice_index_or table.rows slot []

-- the threshold of a slot and a case: case a of heat bath is for a aligned neighbours, case c of Metropolis for c + 4
-- satisfied bonds
abbrev pub threshold_of : RuleView → ℕ → ℕ → ℕ
threshold_of table slot case = slice_index (thresholds_of table slot) case

-- seven values: the thresholds of a slot, and zeros after them
abbrev pub padded : List ℕ → List ℕ
padded row = row ++ replicate (7 - length row) 0

-- the thresholds among the seven values of a row
abbrev pub thresholds_in : RuleKind → RuleRow → List ℕ
thresholds_in kind row = take (cases_of kind) row.values

-- a record has as many fields as the kind has cases
abbrev pub rule_width : RuleKind → Bounds
rule_width kind = record { least = cases_of kind; most = cases_of kind }

-- and there are 1 to 32 records
abbrev pub rule_height : Bounds
rule_height = record { least = 1; most = most_slots }

-- a rule table has 1 to 32 slots
pub record IsLawfulRules (table : RuleView) : Type 0 where
  pub some : 1 ≤ length table.rows
  pub few : length table.rows ≤ most_slots
  pub rows : All (IsLawfulRow (rule_width table.kind)) table.rows

-- whether seven values are the thresholds of a slot with zeros after them
abbrev pub is_lawful_row : RuleKind → RuleRow → Bool
is_lawful_row kind row =
    are_thresholds row.values && list_all (λ n. n == 0) (drop (cases_of kind) row.values)

-- the rule table that the bytes are, or their first refusal
unfoldable pub rule_table : RuleKind → List ℕ → Result RuleView TableRefused
rule_table kind bytes =
    unless (table_refusal (rule_width kind) rule_height bytes) (record { kind = kind; rows = rows_of bytes })

-- ---- the swap table: one row per pair of neighbouring slots, pair 0 the coldest

-- the thresholds of a pair, entry by entry: entry j is for the gap 2 (j + 1) of the unsatisfied bonds of the two slots
abbrev pub entries_of : List (List ℕ) → ℕ → List ℕ
entries_of table pair = slice_index_or table pair []

-- how many entries a pair has
abbrev pub entry_count : List (List ℕ) → ℕ → ℕ
entry_count table pair = length (entries_of table pair)

-- the threshold of a pair and an entry, which is 0 past the entries that the pair has
abbrev pub swap_threshold : List (List ℕ) → ℕ → ℕ → ℕ
swap_threshold table pair entry = slice_index (entries_of table pair) entry

-- a record has 1 to 4096 fields
abbrev pub swap_width : Bounds
swap_width = record { least = 1; most = 4096 }

-- and there is one record per pair
abbrev pub swap_height : ℕ → Bounds
swap_height pairs = record { least = pairs; most = pairs }

-- a swap table has at most 31 pairs, each with 1 to 4096 entries
pub record IsLawfulSwaps (table : List (List ℕ)) : Type 0 where
  pub few : length table ≤ 31
  pub rows : All (IsLawfulRow swap_width) table

-- the swap table of so many slots that the bytes are, or their first refusal
unfoldable pub swap_table : ℕ → List ℕ → Result (List (List ℕ)) TableRefused
swap_table slots bytes = table_of swap_width (swap_height (slots - 1)) bytes
