-- The words before j are written.
use Rattle.std.proofs.Common.{◌≡◌, ℕ, ◌<◌, length, get_or}
use Rattle.multispin_word.specs.Planes.{is_set}
use Rattle.scalar_rule.specs.Neighbours.{agree}
use Rattle.overlap_lines.proofs.counting.find_overlaps.Given as goal

abbrev pub invariant-words : goal.invariant-words
invariant-words l = record {
  long : length l.out ≡ length l.fn.out;
  done : (j b : ℕ) → j < l.j → b < 64 → is_set (get_or l.out j 0) b ≡ agree (is_set (get_or l.first j 0) b) (is_set (get_or l.second j 0) b);
}
