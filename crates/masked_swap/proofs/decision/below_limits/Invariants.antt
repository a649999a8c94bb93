-- The samples that have been compared; the others are not set.
use Rattle.std.proofs.Common.{◌≡◌, ℕ, ◌<◌, ◌≤◌, nat_lt, false, slice_index}
use Rattle.multispin_word.specs.Planes.{is_set}
use Rattle.masked_swap.proofs.decision.below_limits.Given as goal

abbrev pub invariant-samples : goal.invariant-samples
invariant-samples l = record {
  done : (k : ℕ) → k < l.b → is_set l.mask k ≡ nat_lt (slice_index l.draws k) (slice_index l.limits k);
  rest : (k : ℕ) → l.b ≤ k → is_set l.mask k ≡ false;
}
