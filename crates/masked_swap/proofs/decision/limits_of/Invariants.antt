-- The thresholds of the samples so far.
use Rattle.std.proofs.Common.{◌≡◌, ℕ, ◌/◌, ◌<◌, length, slice_index}
use Rattle.threshold_table.specs.Tables.{swap_threshold}
use Rattle.masked_swap.proofs.decision.limits_of.Given as goal

abbrev pub invariant-samples : goal.invariant-samples
invariant-samples l = record {
  long : length l.limits ≡ 64;
  done : (k : ℕ) → k < l.b
      → slice_index l.limits k ≡ swap_threshold l.table l.pair (slice_index l.gaps_less_one k / 2);
}
