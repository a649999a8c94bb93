-- After w planes the numbers in the first w planes are written.
use Rattle.std.proofs.Common.{◌≡◌, ℕ, ◌<◌, length, get_or}
use Rattle.multispin_word.specs.Planes.{first}
use Rattle.multispin_word.proofs.planes.Planes.to_numbers.Given as goal

abbrev pub invariant-planes : goal.invariant-planes
invariant-planes g l = record {
  long : length l.out ≡ 64;
  done : (k : ℕ) → k < 64 → get_or l.out k 0 ≡ first l.self.words l.w k;
}
