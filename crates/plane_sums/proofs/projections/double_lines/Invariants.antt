-- The lines below j are doubled, those from j on are as before.
use Rattle.std.proofs.Common.{◌≡◌, ℕ, ◌*◌, ◌%◌, ◌<◌, ◌≤◌, length}
use Rattle.plane_sums.specs.Counts.{count_at, line_at}
use Rattle.plane_sums.proofs.projections.double_lines.Given as goal

abbrev pub invariant-lines : goal.invariant-lines
invariant-lines l = record {
  long : length l.lines ≡ 64;
  doubled : (j k b : ℕ) → j < l.j → k < 2 * l.size → count_at (line_at l.lines j) k b ≡ count_at (line_at l.fn.lines j) (k % l.size) b;
  rest : (j : ℕ) → l.j ≤ j → line_at l.lines j ≡ line_at l.fn.lines j;
}
