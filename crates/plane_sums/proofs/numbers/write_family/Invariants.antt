-- The planes below m are written.
use Rattle.std.proofs.Common.{◌≡◌, ℕ, ◌*◌, ◌<◌, pos, ◌-ℤ◌, [], length, get_or}
use Rattle.plane_sums.specs.Counts.{count_at}
use Rattle.plane_sums.proofs.numbers.write_family.Given as goal

abbrev pub invariant-planes : goal.invariant-planes
invariant-planes l = record {
  long : length l.out ≡ 64;
  written : (m b : ℕ) → m < l.m → b < 64 → get_or (get_or l.out m []) b (pos 0) ≡ pos (2 * count_at l.total.planes m b) -ℤ pos (l.size * l.size);
}
