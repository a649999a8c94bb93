-- After w planes: what is left so far, with the borrow, is the difference of the first w planes.
use Rattle.std.proofs.Common.{◌≡◌, ℕ, ◌+◌, ◌*◌, ◌^◌, ◌<◌, length}
use Rattle.std.specs.Int.{bit_at}
use Rattle.multispin_word.specs.Planes.{first}
use Rattle.bit_compare.proofs.subtraction.difference.Given as goal

abbrev pub invariant-planes : goal.invariant-planes
invariant-planes g l = record {
  long : length l.rest.words ≡ length l.a;
  taken : (k : ℕ) → k < 64
      → first l.a l.w k + 2 ^ l.w * bit_at l.borrow k ≡ first l.rest.words l.w k + first l.b l.w k;
}
