-- The distances before r are written.
use Rattle.std.proofs.Common.{◌≡◌, ℕ, ◌<◌, [], length, get_or}
use Rattle.plane_sums.specs.Correlations.{signed_at}
use Rattle.copies_report.proofs.numbers.column_of.Given as goal

abbrev pub invariant-distances : goal.invariant-distances
invariant-distances l = record {
  long : length l.column ≡ 33;
  written : (r : ℕ) → r < l.r → signed_at l.column r ≡ signed_at (get_or l.sums r []) l.b;
}
