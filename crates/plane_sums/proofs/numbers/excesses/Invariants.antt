-- The samples below b are written.
use Rattle.std.proofs.Common.{◌≡◌, ℕ, ◌*◌, ◌<◌, pos, ◌-ℤ◌, length, get_or}
use Rattle.plane_sums.proofs.numbers.excesses.Given as goal

abbrev pub invariant-samples : goal.invariant-samples
invariant-samples l = record {
  long : length l.out ≡ 64;
  written : (b : ℕ) → b < l.b → get_or l.out b (pos 0) ≡ pos (2 * get_or l.counts b 0) -ℤ pos l.sites;
}
