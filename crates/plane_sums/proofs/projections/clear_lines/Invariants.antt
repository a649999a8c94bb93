-- The lines below j are clear.
use Rattle.std.proofs.Common.{◌≡◌, ℕ, ◌<◌, length}
use Rattle.plane_sums.specs.Counts.{count_at, line_at}
use Rattle.plane_sums.proofs.projections.clear_lines.Given as goal

abbrev pub invariant-lines : goal.invariant-lines
invariant-lines l = record {
  long : length l.lines ≡ 64;
  clear : (j k b : ℕ) → j < l.j → k < l.size → count_at (line_at l.lines j) k b ≡ 0;
}
