-- The samples below b are counted, the others are as before.
use Rattle.std.proofs.Common.{◌≡◌, ℕ, ◌+◌, ◌<◌, ◌≤◌, ◌==◌, [], get_or, length}
use Rattle.spin_model.specs.Words.{one_if}
use Rattle.measured_sums.specs.EpochBins.{class_of}
use Rattle.plane_sums.specs.Correlations.{signed_at}
use Rattle.plane_sums.proofs.classes.count_classes.Given as goal

abbrev pub invariant-samples : goal.invariant-samples
invariant-samples l = record {
  long : length l.classes ≡ 64;
  counted : (b c : ℕ) → b < l.b → c < 32 → get_or (get_or l.classes b []) c 0 ≡ get_or (get_or l.fn.classes b []) c 0 + one_if (class_of l.lattice (signed_at l.overlaps b) == c);
  rest : (b : ℕ) → l.b ≤ b → get_or l.classes b [] ≡ get_or l.fn.classes b [];
}
