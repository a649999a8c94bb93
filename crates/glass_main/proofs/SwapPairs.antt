-- A swap table that is read has one record fewer than there are slots.
use Rattle.std.proofs.Common.{◌≡◌, ℕ, ◌-◌, List, length, Ok, arith}
use Rattle.threshold_table.specs.Tables.{swap_table, swap_width, swap_height}
use Rattle.threshold_table.proofs.Lawful.{found-lawful}

pub swap_table-pairs : (slots : ℕ) (bytes : List ℕ) (table : List (List ℕ)) → swap_table slots bytes ≡ Ok table → length table ≡ slots - 1
unfolding swap_table
swap_table-pairs slots bytes table read =
    let found = found-lawful swap_width (swap_height (slots - 1)) bytes table read in
    omega (arith, found.least, found.most)
