-- As many lines as passes.
use Rattle.std.proofs.Common.{◌≡◌, length}
use Rattle.plane_sums.proofs.room.empty_lines.Given as goal

abbrev pub invariant-lines : goal.invariant-lines
invariant-lines g l = length l.lines.items ≡ l.line
