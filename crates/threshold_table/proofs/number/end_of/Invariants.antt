use Rattle.std.proofs.Common.{◌≡◌, ◌+◌, ◌≤◌, take, length}
use Rattle.std.specs.List.{suffix_len}
use Rattle.threshold_table.specs.TableText.{is_space}
use Rattle.threshold_table.proofs.number.end_of.Given as goal

abbrev pub invariant-bytes : goal.invariant-bytes
invariant-bytes l = record {
  within : l.end ≤ length l.field;
  spaces : suffix_len is_space l.field + l.end ≡ suffix_len is_space (take l.end l.field) + length l.field;
}

abbrev pub decreases-bytes : goal.decreases-bytes
decreases-bytes l = l.end
