-- The labels below b are swapped where the mask has their sample, and the others are as before.
use Rattle.std.proofs.Common.{◌≡◌, ℕ, ◌<◌, ◌≤◌, length, get_or, if◌then◌else◌}
use Rattle.spin_model.specs.Words.{is_set}
use Rattle.masked_swap.proofs.trade.swap_labels.Given as goal

abbrev pub invariant-samples : goal.invariant-samples
invariant-samples l = record {
  same : length l.cold ≡ length l.fn.cold;
  long : length l.hot ≡ length l.fn.hot;
  cold : (k : ℕ) → k < l.b
      → get_or l.cold k 0 ≡ (if is_set l.mask k then get_or l.fn.hot k 0 else get_or l.fn.cold k 0);
  hot : (k : ℕ) → k < l.b
      → get_or l.hot k 0 ≡ (if is_set l.mask k then get_or l.fn.cold k 0 else get_or l.fn.hot k 0);
  cold_rest : (k : ℕ) → l.b ≤ k → get_or l.cold k 0 ≡ get_or l.fn.cold k 0;
  hot_rest : (k : ℕ) → l.b ≤ k → get_or l.hot k 0 ≡ get_or l.fn.hot k 0;
}
