-- After b samples theirs are added, and the others are as before.
use Rattle.std.proofs.Common.{◌≡◌, ℕ, ◌+◌, ◌*◌, ◌^◌, ◌<◌, ◌≤◌, length, get_or}
use Rattle.multispin_word.specs.Planes.{is_set, one_if}
use Rattle.multispin_word.proofs.planes.add_half.Given as goal

abbrev pub invariant-samples : goal.invariant-samples
invariant-samples l = record {
  long : length l.out ≡ 64;
  done : (k : ℕ) → k < l.b
      → get_or l.out (l.first + k) 0 ≡ get_or l.fn.out (l.first + k) 0 + 2 ^ l.plane * one_if (is_set l.half k);
  below : (k : ℕ) → k < l.first → get_or l.out k 0 ≡ get_or l.fn.out k 0;
  rest : (k : ℕ) → l.first + l.b ≤ k → get_or l.out k 0 ≡ get_or l.fn.out k 0;
}
