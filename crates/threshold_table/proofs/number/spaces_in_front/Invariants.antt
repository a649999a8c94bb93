use Rattle.std.proofs.Common.{◌≡◌, ◌+◌, drop}
use Rattle.std.specs.List.{prefix_len}
use Rattle.threshold_table.specs.TableText.{is_space}
use Rattle.threshold_table.proofs.number.spaces_in_front.Given as goal

abbrev pub invariant-bytes : goal.invariant-bytes
invariant-bytes l = prefix_len is_space l.field ≡ l.i + prefix_len is_space (drop l.i l.field)
