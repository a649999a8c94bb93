-- The samples below b are written.
use Rattle.std.proofs.Common.{◌≡◌, ℕ, ◌*◌, ◌<◌, pos, ◌-ℤ◌, length, get_or}
use Rattle.plane_sums.specs.Correlations.{signed_at}
use Rattle.plane_sums.proofs.fields.write_excesses.Given as goal

abbrev pub invariant-samples : goal.invariant-samples
invariant-samples l = record {
  long : length l.out ≡ 64;
  written : (b : ℕ) → b < l.b → signed_at l.out b ≡ pos (2 * get_or l.numbers b 0) -ℤ pos l.whole;
}
