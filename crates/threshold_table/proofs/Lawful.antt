-- A table that is not refused is lawful: each row has as many numbers as it may have, and each number is a threshold.
use Rattle.std.proofs.Common.{◌≡◌, ℕ, ◌+◌, ◌≤◌, true, List, [], ◌∷◌, length, map, None, Ok, refl, sym, arith}
use Rattle.std.specs.Prelude.{nat_le, if◌then◌else◌}
use Rattle.std.specs.List.{All, list_all}
use Rattle.std.proofs.lemmas.Bool.{leb-true}
use Rattle.std.proofs.lemmas.Bool.Decides.{nat_tests}
use Rattle.std.proofs.lemmas.List.{length-map}
use Rattle.std.proofs.lemmas.List.Elements.{All-nil, All-cons, All-same}
use Rattle.glass_edges.specs.Refusals.{first_found}
use Rattle.glass_edges.proofs.FirstRefusals.{or-none, if-none, unless-ok}
use Rattle.threshold_table.specs.declared.bounds.Bounds.{Bounds}
use Rattle.threshold_table.specs.TableText.{is_within, is_lawful, is_number, trimmed, without_mark, records, fields, field_value, record_values, field_refusal, record_refusal, count_refusal, table_refusal, rows_of, table_of}
use Rattle.threshold_table.specs.Tables.{IsLawfulRow}

within : (bounds : Bounds) (n : ℕ) → is_within bounds n ≡ true → (bounds.least ≤ n) × (n ≤ bounds.most)
within bounds n test = (grind (arith, nat_tests), grind (arith, nat_tests))

-- a number of records that is not refused
pub counted : (height : Bounds) (n : ℕ) → None ≡ count_refusal height n → (height.least ≤ n) × (n ≤ height.most)
counted height n none = (grind (arith, nat_tests), grind (arith, nat_tests))

-- ---- fields, records and the table

field-limited : (at k : ℕ) (field : List ℕ) → None ≡ field_refusal at k field → field_value field ≤ 4294967296
unfolding field_refusal
field-limited at k field none =
    let number = if-none (is_number (trimmed field)) _ _ none in
    leb-true (field_value field) 4294967296 (if-none (nat_le (field_value field) 4294967296) None _ number.1).0

fields-limited : (at k : ℕ) (fs : List (List ℕ)) → None ≡ first_found (field_refusal at) k fs → All (λ n. n ≤ 4294967296) (map field_value fs)
unfolding first_found
fields-limited at k [] none = All-nil (λ n. n ≤ 4294967296)
fields-limited at k (f ∷ fs) none =
    let p = or-none (field_refusal at k f) _ none in
    All-cons (λ n. n ≤ 4294967296) (field_value f) (map field_value fs) (field-limited at k f p.0) (fields-limited at (k + 1) fs p.1)

row-lawful : (width : Bounds) (at : ℕ) (line : List ℕ) → None ≡ record_refusal width at line → IsLawfulRow width (record_values line)
unfolding record_refusal
row-lawful width at line none =
    let p = if-none (is_within width (length (fields line))) _ _ none in
    let q = within width (length (fields line)) p.0 in
    record { least = rw length-map q.0; most = rw length-map q.1; limited = fields-limited at 0 (fields line) p.1 }

rows-lawful : (width : Bounds) (at : ℕ) (lines : List (List ℕ)) → None ≡ first_found (record_refusal width) at lines → All (IsLawfulRow width) (map record_values lines)
unfolding first_found
rows-lawful width at [] none = All-nil (IsLawfulRow width)
rows-lawful width at (x ∷ xs) none =
    let p = or-none (record_refusal width at x) _ none in
    All-cons (IsLawfulRow width) (record_values x) (map record_values xs) (row-lawful width at x p.0) (rows-lawful width (at + 1) xs p.1)

-- rows within the bounds
pub record IsFound (width height : Bounds) (table : List (List ℕ)) : Type 0 where
  pub least : height.least ≤ length table
  pub most : length table ≤ height.most
  pub rows : All (IsLawfulRow width) table

pub found-lawful : (width height : Bounds) (bytes : List ℕ) (rows : List (List ℕ)) → table_of width height bytes ≡ Ok rows → IsFound width height rows
unfolding table_of
found-lawful width height bytes rows is =
    let u = unless-ok (table_refusal width height bytes) (rows_of bytes) rows is in
    let t = if-none (list_all is_lawful (without_mark bytes)) _ _ u.0 in
    let p = or-none (first_found (record_refusal width) 0 (records (without_mark bytes))) _ t.1 in
    let q = counted height (length (records (without_mark bytes))) p.1 in
    let len : length rows ≡ length (records (without_mark bytes)) = rw (← u.1, length-map) refl in
    record { least = rw len q.0; most = rw len q.1; rows = All-same (IsLawfulRow width) rows _ (sym u.1) (rows-lawful width 0 (records (without_mark bytes)) p.0) }
