-- The words below i are traded, and the others are as before.
use Rattle.std.proofs.Common.{◌≡◌, ℕ, ◌<◌, ◌≤◌, length, get_or, if◌then◌else◌, ◌^◌, All}
use Rattle.spin_model.specs.Words.{is_set}
use Rattle.masked_swap.proofs.trade.swap_words.Given as goal

abbrev pub invariant-words : goal.invariant-words
invariant-words l = record {
  same : length l.cold ≡ length l.fn.cold;
  long : length l.hot ≡ length l.fn.cold;
  cold : (i b : ℕ) → i < l.i → b < 64
      → is_set (get_or l.cold i 0) b ≡ (if is_set l.mask b then is_set (get_or l.fn.hot i 0) b else is_set (get_or l.fn.cold i 0) b);
  hot : (i b : ℕ) → i < l.i → b < 64
      → is_set (get_or l.hot i 0) b ≡ (if is_set l.mask b then is_set (get_or l.fn.cold i 0) b else is_set (get_or l.fn.hot i 0) b);
  cold_range : All (λ word. word < 2 ^ 64) l.cold;
  hot_range : All (λ word. word < 2 ^ 64) l.hot;
  cold_rest : (i : ℕ) → l.i ≤ i → get_or l.cold i 0 ≡ get_or l.fn.cold i 0;
  hot_rest : (i : ℕ) → l.i ≤ i → get_or l.hot i 0 ≡ get_or l.fn.hot i 0;
}
