use Rattle.std.proofs.Common.{◌≡◌, ℕ, List, take, length}
use Rattle.std.specs.List.{All}
use Rattle.threshold_table.proofs.swap_table.SwapTable.from_rows.Given as goal

abbrev pub invariant-rows : goal.invariant-rows
invariant-rows g l = record {
  kept : l.kept.items ≡ take l.row-index l.rows;
  sized : All (λ (row : List ℕ). length row ≡ g.row.N) (take l.row-index l.rows);
}
