-- There are at most 64 planes, and each sum is at most 4096.
use Rattle.std.proofs.Common.{ℕ, [], get_or, ◌+ℤ◌, sym, ap, ◌∙◌, arith}
use Rattle.measured_sums.proofs.BoundedSums.{sum-bound}
use Rattle.plane_sums.specs.Correlations.{signed_at}
use Rattle.plane_sums.proofs.Signed.{signed-more, signed-none}
use Rattle.plane_sums.proofs.overlaps.sum_planes.Goals as goal

pub planes-init : goal.planes-init
planes-init c = λ b h. c.no_overlaps.ensures b ∙ sym (signed-none (λ m. signed_at (get_or c.args.planes.now m []) b))

pub add_plane-requires-clause-out : goal.add_plane-requires-clause-out
add_plane-requires-clause-out c = λ b h.
    let m = c.planes.m in
    let term = λ (m : ℕ). signed_at (get_or c.args.planes.now m []) b in
    let each = sum-bound term 4096 m (λ k below. c.requires.within k b (omega arith) h) in
    rw (c.planes.invariant b h) (omega (arith, each, c.requires.size))

pub planes-preserved : goal.planes-preserved
planes-preserved c = λ b h.
    let term = λ (m : ℕ). signed_at (get_or c.args.planes.now m []) b in
    c.add_plane.ensures b h ∙ ap (λ z. z +ℤ term c.planes.m) (c.planes.invariant b h) ∙ sym (signed-more term c.planes.m)
