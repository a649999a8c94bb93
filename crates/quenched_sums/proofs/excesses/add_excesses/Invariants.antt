-- The samples below b have their count's excess more, the others are as before.
use Rattle.std.proofs.Common.{◌≡◌, ℕ, ◌*◌, ◌<◌, ◌≤◌, pos, ◌+ℤ◌, ◌-ℤ◌, length}
use Rattle.multispin_word.specs.Planes.{number}
use Rattle.plane_sums.specs.Correlations.{signed_at}
use Rattle.quenched_sums.proofs.excesses.add_excesses.Given as goal

abbrev pub invariant-samples : goal.invariant-samples
invariant-samples l = record {
  long : length l.out ≡ 64;
  added : (b : ℕ) → b < l.b → signed_at l.out b ≡ signed_at l.fn.out b +ℤ (pos (2 * number l.counts.words b) -ℤ pos l.whole);
  rest : (b : ℕ) → l.b ≤ b → signed_at l.out b ≡ signed_at l.fn.out b;
}
