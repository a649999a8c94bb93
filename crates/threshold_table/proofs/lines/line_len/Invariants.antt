use Rattle.std.proofs.Common.{◌≡◌, ◌+◌, drop}
use Rattle.std.specs.List.{position_or_len}
use Rattle.threshold_table.specs.TableText.{is_line_end}
use Rattle.threshold_table.proofs.lines.line_len.Given as goal

abbrev pub invariant-bytes : goal.invariant-bytes
invariant-bytes l = position_or_len is_line_end l.text ≡ l.i + position_or_len is_line_end (drop l.i l.text)
