-- The lines below j have both words more, those from j on are as before.
use Rattle.std.proofs.Common.{◌≡◌, ℕ, ◌+◌, ◌<◌, ◌≤◌, length}
use Rattle.multispin_word.specs.Planes.{is_set, one_if}
use Rattle.plane_sums.specs.Counts.{count_at, line_at}
use Rattle.plane_sums.specs.Lines.{word_in}
use Rattle.plane_sums.proofs.projections.add_pair.Given as goal

abbrev pub invariant-lines : goal.invariant-lines
invariant-lines l = record {
  long : length l.lines ≡ 64;
  added : (j k b : ℕ) → j < l.j → k < l.size → b < 64 → count_at (line_at l.lines j) k b
      ≡ count_at (line_at l.fn.lines j) k b + one_if (is_set (word_in l.front j k) b) + one_if (is_set (word_in l.back j k) b);
  rest : (j : ℕ) → l.j ≤ j → line_at l.lines j ≡ line_at l.fn.lines j;
}
