use Rattle.std.proofs.Common.{arith}
use Rattle.threshold_table.specs.Tables.{swap_width, swap_height}
use Rattle.threshold_table.proofs.Lawful.{found-lawful}
use Rattle.threshold_table.proofs.readers.read_swap.Goals as goal

pub of_lists-requires : goal.of_lists-requires
of_lists-requires c =
    let found = found-lawful swap_width (swap_height _) c.args.bytes.now c.in_ok-rows.rows.items c.in_ok-rows.ensures in
    record { few = omega (arith, found.most); rows = found.rows }
