use Rattle.std.proofs.Common.{◌≡◌, ◌+◌, drop}
use Rattle.std.specs.List.{position_or_len}
use Rattle.threshold_table.specs.TableText.{is_comma}
use Rattle.threshold_table.proofs.fields.field_len.Given as goal

abbrev pub invariant-bytes : goal.invariant-bytes
invariant-bytes l = position_or_len is_comma l.line ≡ l.i + position_or_len is_comma (drop l.i l.line)
