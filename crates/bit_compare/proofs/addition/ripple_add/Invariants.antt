-- After w planes: the first w of the total, with the carry, are the sum of the first w planes and the
-- bit; the planes above are as before.
use Rattle.std.proofs.Common.{◌≡◌, ℕ, ◌+◌, ◌*◌, ◌^◌, ◌≤◌, length, get_or}
use Rattle.std.specs.Int.{bit_at}
use Rattle.multispin_word.specs.Planes.{first}
use Rattle.bit_compare.proofs.addition.ripple_add.Given as goal

abbrev pub invariant-planes : goal.invariant-planes
invariant-planes g l = record {
  long : length l.total ≡ length l.fn.total;
  added : (k : ℕ) → first l.total l.w k + 2 ^ l.w * bit_at l.carry k
      ≡ first l.fn.total l.w k + first l.other l.w k + bit_at l.bit k;
  rest : (j : ℕ) → l.w ≤ j → get_or l.total j 0 ≡ get_or l.fn.total j 0;
}
