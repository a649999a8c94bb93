-- The families so far are written.
use Rattle.std.proofs.Common.{◌≡◌, ℕ, ◌*◌, ◌<◌, pos, ◌-ℤ◌, length}
use Rattle.plane_sums.specs.Counts.{count_at, line_at}
use Rattle.plane_sums.specs.Rooms.{number_in}
use Rattle.plane_sums.proofs.numbers.write_families.Given as goal

abbrev pub invariant-families : goal.invariant-families
invariant-families l = record {
  long : length l.out ≡ 9;
  written : (f m b : ℕ) → f < l.family → m < l.size → b < 64
      → number_in l.out f m b ≡ pos (2 * count_at (line_at l.totals f) m b) -ℤ pos (l.size * l.size);
}
