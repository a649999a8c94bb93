-- A text and a record, taken one piece after the other.
use Rattle.std.specs.Prelude.{ℕ, if◌then◌else◌, List, [], ◌∷◌, Option, Some, None}
use Rattle.threshold_table.specs.TableText.{has_bytes, records, fields}

-- a line in front of the records, where it is one
abbrev pub with_line : List ℕ → List (List ℕ) → List (List ℕ)
with_line line others = if has_bytes line then line ∷ others else others

-- a record and those of the text after it, if there is one
abbrev pub records_left : Option (List ℕ × List ℕ) → List (List ℕ)
records_left None = []
records_left (Some x) = x.0 ∷ records x.1

-- the fields of what is left of a record, if something is
abbrev pub fields_left : Option (List ℕ) → List (List ℕ)
fields_left None = []
fields_left (Some left) = fields left
