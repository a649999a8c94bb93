-- The rows of a swap table that is made from rows of one length.
use Rattle.std.proofs.Common.{◌≡◌, ℕ, ◌≤◌, true, List, [], length, get_or, arith}
use Rattle.std.specs.List.{All, list_all}
use Rattle.std.proofs.lemmas.List.Elements.{All-get_or, All-from_get_or}
use Rattle.std.proofs.lemmas.List.Sums.{AllPass-from_list_all}
use Rattle.threshold_table.specs.Tables.{IsLawfulRow, IsLawfulSwaps, swap_width, are_thresholds}
use Rattle.threshold_table.proofs.PaddedRows.{limits}

pub swaps-kept : (n : ℕ) (rows : List (List ℕ)) → length rows ≤ 31 → 1 ≤ n → n ≤ 4096 → All (λ (row : List ℕ). length row ≡ n) rows → list_all are_thresholds rows ≡ true → IsLawfulSwaps rows
swaps-kept n rows few some short sized lawful =
    let pass = AllPass-from_list_all are_thresholds rows lawful in
    record {
      few = few;
      rows = All-from_get_or (IsLawfulRow swap_width) rows [] (λ i lt.
          let len : length (get_or rows i []) ≡ n = All-get_or (λ (row : List ℕ). length row ≡ n) rows i [] lt sized in
          record {
            least = omega arith;
            most = omega arith;
            limited = limits (get_or rows i []) (All-get_or (λ (row : List ℕ). are_thresholds row ≡ true) rows i [] lt pass);
          });
    }
