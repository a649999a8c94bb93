-- The thresholds of a slot among the seven values of its row.
use Rattle.std.proofs.Common.{◌≡◌, ℕ, ◌+◌, ◌-◌, ◌<◌, ◌≤◌, true, List, [], ◌∷◌, ◌++◌, length, get_or, take, drop, map, refl, sym, ap, ◌∙◌, arith}
use Rattle.std.specs.Prelude.{nat_le, ◌==◌, ◌&&◌, replicate}
use Rattle.std.specs.List.{All, list_all}
use Rattle.std.proofs.lemmas.Bool.Decides.{nat_tests}
use Rattle.std.proofs.lemmas.Bool.{eqb-true, and_parts}
use Rattle.std.proofs.lemmas.List.{take-append-le, take_all, length-take, length-drop, length-map, take-append-drop, take_more, map-append}
use Rattle.std.proofs.lemmas.List.Elements.{All-take, All-weaker, All-get_or, All-from_get_or, All-map}
use Rattle.std.proofs.lemmas.List.Sums.{AllPass-from_list_all}
use Rattle.threshold_table.specs.declared.rule_table.RuleKind.{RuleKind}
use Rattle.threshold_table.specs.declared.rule_table.RuleKind.TheVariants as kinds
use Rattle.threshold_table.specs.declared.rule_table.RuleRow.{RuleRow}
use Rattle.threshold_table.specs.Tables.{IsLawfulRow, IsLawfulRules, cases_of, rule_width, padded, thresholds_in, is_lawful_row}
use Rattle.threshold_table.specs.KeptRules.{IsPadded, KeepsRules}

pub cases-short : (kind : RuleKind) → cases_of kind ≤ 7
cases-short kinds.Heat = omega arith
cases-short kinds.Metropolis = omega arith

-- zeros alone
zeros : (xs : List ℕ) → list_all (λ n. n == 0) xs ≡ true → xs ≡ replicate (length xs) 0
zeros [] e = refl
zeros (x ∷ xs) e =
    let p = and_parts (x == 0) (list_all (λ n. n == 0) xs) e in
    let head : x ≡ 0 = eqb-true x 0 p.0 in
    let tail : xs ≡ replicate (length xs) 0 = zeros xs p.1 in
    cc

-- seven values of which the unused are zeros
pub row-padded : (kind : RuleKind) (row : RuleRow) → length row.values ≡ 7 → is_lawful_row kind row ≡ true → IsPadded kind row
row-padded kind row sized lawful =
    let p = and_parts (list_all (λ n. nat_le n 4294967296) row.values) (list_all (λ n. n == 0) (drop (cases_of kind) row.values)) lawful in
    let rest : drop (cases_of kind) row.values ≡ replicate (length (drop (cases_of kind) row.values)) 0 = zeros _ p.1 in
    let short = cases-short kind in
    let len : length (drop (cases_of kind) row.values) ≡ 7 - length (take (cases_of kind) row.values) = rw (length-drop, length-take) (omega arith) in
    sym (take-append-drop (cases_of kind) row.values) ∙ ap (λ (ys : List ℕ). take (cases_of kind) row.values ++ ys) (rest ∙ ap (λ (n : ℕ). replicate n 0) len)

-- numbers that are tested to be thresholds
pub limits : (xs : List ℕ) → list_all (λ n. nat_le n 4294967296) xs ≡ true → All (λ n. n ≤ 4294967296) xs
limits xs lawful = All-weaker (λ n. nat_le n 4294967296 ≡ true) (λ n. n ≤ 4294967296) (λ n test. grind (arith, nat_tests)) xs (AllPass-from_list_all (λ n. nat_le n 4294967296) xs lawful)

pub row-lawful : (kind : RuleKind) (row : RuleRow) → length row.values ≡ 7 → is_lawful_row kind row ≡ true → IsLawfulRow (rule_width kind) (thresholds_in kind row)
row-lawful kind row sized lawful =
    let p = and_parts (list_all (λ n. nat_le n 4294967296) row.values) (list_all (λ n. n == 0) (drop (cases_of kind) row.values)) lawful in
    let short = cases-short kind in
    record {
      least = rw length-take (omega arith);
      most = rw length-take (omega arith);
      limited = All-take (λ n. n ≤ 4294967296) (cases_of kind) row.values (limits row.values p.0);
    }

-- the rows of from_rows
pub rows-kept : (kind : RuleKind) (rows own : List RuleRow) → own ≡ rows → All (λ (r : RuleRow). length r.values ≡ 7) rows → 1 ≤ length rows → length rows ≤ 32 → list_all (is_lawful_row kind) rows ≡ true → KeepsRules (record { kind = kind; rows = own })
rows-kept kind rows own same sized some few lawful =
    let pass = AllPass-from_list_all (is_lawful_row kind) rows lawful in
    let d : RuleRow = record { values = [] } in
    let at : (i : ℕ) → i < length rows → length (get_or rows i d).values ≡ 7 = λ i lt. All-get_or (λ (r : RuleRow). length r.values ≡ 7) rows i d lt sized in
    let test : (i : ℕ) → i < length rows → is_lawful_row kind (get_or rows i d) ≡ true = λ i lt. All-get_or (λ (r : RuleRow). is_lawful_row kind r ≡ true) rows i d lt pass in
    rw same record {
      padded = All-from_get_or (IsPadded kind) rows d (λ i lt. row-padded kind (get_or rows i d) (at i lt) (test i lt));
      lawful = record {
        some = rw length-map some;
        few = rw length-map few;
        rows = All-map (IsLawfulRow (rule_width kind)) (thresholds_in kind) rows (All-from_get_or (λ (r : RuleRow). IsLawfulRow (rule_width kind) (thresholds_in kind r)) rows d (λ i lt. row-lawful kind (get_or rows i d) (at i lt) (test i lt)));
      };
    }

-- ---- rows made from lists

-- a list with as many thresholds as the kind has cases
front-padded : (kind : RuleKind) (row : List ℕ) → IsLawfulRow (rule_width kind) row → take (cases_of kind) (padded row) ≡ row
front-padded kind row lawful = take-append-le (cases_of kind) row _ lawful.least ∙ take_all (cases_of kind) row lawful.most

pub row-short : (kind : RuleKind) (rows : List (List ℕ)) (i : ℕ) (d : List ℕ) → i < length rows → All (IsLawfulRow (rule_width kind)) rows → length (get_or rows i d) ≤ 7
row-short kind rows i d lt lawful =
    let most = (All-get_or (IsLawfulRow (rule_width kind)) rows i d lt lawful).most in
    let short = cases-short kind in
    omega arith

pub thresholds-made : (kind : RuleKind) (r : RuleRow) (row : List ℕ) → r.values ≡ padded row → IsLawfulRow (rule_width kind) row → thresholds_in kind r ≡ row
thresholds-made kind r row made lawful = rw made (front-padded kind row lawful)

pub padded-made : (kind : RuleKind) (r : RuleRow) (row : List ℕ) → r.values ≡ padded row → IsLawfulRow (rule_width kind) row → IsPadded kind r
padded-made kind r row made lawful = rw (thresholds-made kind r row made lawful) made

pub lists-kept : (kind : RuleKind) (rows : List (List ℕ)) (own : List RuleRow) → map (thresholds_in kind) own ≡ rows → All (IsPadded kind) own → IsLawfulRules (record { kind = kind; rows = rows }) → KeepsRules (record { kind = kind; rows = own })
lists-kept kind rows own same padded lawful = record { padded = padded; lawful = rw same lawful }

-- one row more
pub made-more : (kind : RuleKind) (own : List RuleRow) (r : RuleRow) (rows : List (List ℕ)) (i : ℕ) (d : List ℕ) → i < length rows → r.values ≡ padded (get_or rows i d) → All (IsLawfulRow (rule_width kind)) rows
    → map (thresholds_in kind) own ≡ take i rows → map (thresholds_in kind) (own ++ r ∷ []) ≡ take (i + 1) rows
made-more kind own r rows i d lt made lawful so_far =
    let row = thresholds-made kind r (get_or rows i d) made (All-get_or (IsLawfulRow (rule_width kind)) rows i d lt lawful) in
    rw (map-append, so_far, take_more rows i d lt) (ap (λ (x : List ℕ). take i rows ++ x ∷ []) row)
