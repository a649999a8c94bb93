-- The planes below k are traded, and the others are as before.
use Rattle.std.proofs.Common.{◌≡◌, ℕ, ◌<◌, ◌≤◌, length}
use Rattle.plane_sweep.specs.Packed.{plane_at}
use Rattle.masked_swap.specs.Mask.{IsTradedPlane}
use Rattle.masked_swap.proofs.trade.swap_planes.Given as goal

abbrev pub invariant-planes : goal.invariant-planes
invariant-planes l = record {
  same : length l.cold ≡ length l.fn.cold;
  long : length l.hot ≡ length l.fn.hot;
  cold : (k : ℕ) → k < l.k → IsTradedPlane l.mask (plane_at l.fn.cold k) (plane_at l.fn.hot k) (plane_at l.cold k);
  hot : (k : ℕ) → k < l.k → IsTradedPlane l.mask (plane_at l.fn.hot k) (plane_at l.fn.cold k) (plane_at l.hot k);
  cold_rest : (k : ℕ) → l.k ≤ k → plane_at l.cold k ≡ plane_at l.fn.cold k;
  hot_rest : (k : ℕ) → l.k ≤ k → plane_at l.hot k ≡ plane_at l.fn.hot k;
}
