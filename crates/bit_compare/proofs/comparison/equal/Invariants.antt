-- After w planes: the samples whose numbers are equal in the first w planes.
use Rattle.std.proofs.Common.{◌≡◌, ℕ, ◌<◌, ◌==◌}
use Rattle.multispin_word.specs.Planes.{first, is_set}
use Rattle.bit_compare.proofs.comparison.equal.Given as goal

abbrev pub invariant-planes : goal.invariant-planes
invariant-planes g l = (k : ℕ) → k < 64 → is_set l.same k ≡ (first l.a l.w k == first l.b l.w k)
