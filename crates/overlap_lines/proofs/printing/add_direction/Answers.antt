-- The sums are those of the counts, by distance.
use Rattle.std.proofs.Common.{rules, ◌≡◌, ◌+◌, ◌*◌, ◌/◌, ◌<◌, SFits, w64, to_z, of_z, ◌++◌, ap, ◌∙◌}
use Rattle.std.specs.Prelude.{ℤ}
use Rattle.std.proofs.lemmas.Int.{to_z-of_z}
use Rattle.glass_edges.proofs.Writing.{fronts-none, fronts-more, fronts-stopped, fronts-same}
use Rattle.spin_model.specs.Lattice.{volume}
use Rattle.overlap_lines.specs.LineText.{line_line}
use Rattle.overlap_lines.specs.CountedText.{sum_at}
use Rattle.spin_model.proofs.Joined.{joined-zero, joined-more, joined-at}
use Rattle.overlap_lines.proofs.printing.add_direction.Goals as goal
use Rattle.overlap_lines.proofs.printing.add_direction.Goals.{After-sum_of-sum}

-- the line has the sum of the counts
same : (g : _) (c : After-sum_of-sum g) → c.distances.line ++ line_line c.args.slot.sample c.args.slot.number c.args.d (c.distances.k + 1) (to_z w64 (of_z w64 c.sum_of-sum.result))
    ≡ c.distances.line ++ line_line c.args.slot.sample c.args.slot.number c.args.d (c.distances.k + 1) (sum_at c.args.counts.now (32 * c.args.d + (c.distances.k + 1)) c.args.slot.sample (volume c.args.lattice.now))
same g c =
    let fits : SFits w64 c.sum_of-sum.result = search rules in
    let counted : c.sum_of-sum.result ≡ sum_at c.args.counts.now (32 * c.args.d + (c.distances.k + 1)) c.args.slot.sample (volume c.args.lattice.now)
    = rw c.sites-sites.ensures.value at c.sum_of-sum.ensures in
    ap (λ (n : ℤ). c.distances.line ++ line_line c.args.slot.sample c.args.slot.number c.args.d (c.distances.k + 1) n) (to_z-of_z w64 c.sum_of-sum.result fits ∙ counted)

pub distances-init : goal.distances-init
distances-init g c = fronts-none (joined-zero _ _)

pub distances-preserved : goal.distances-preserved
distances-preserved g c =
    let at = (goal.at.distances-preserved g c).After-sum_of-sum in
    fronts-more _ _ _ c.distances.invariant (fronts-same (same g at) c.in_ok-add_line.ensures) (joined-more _ _ c.distances.k)

pub returns-in_err-add_line : goal.returns-in_err-add_line
returns-in_err-add_line g c =
    let at = (goal.at.returns-in_err-add_line g c).After-sum_of-sum in
    let below : c.distances.k < c.args.lattice.now / 2 = rw c.size-k-end.ensures.value at c.distances-test.true in
    fronts-stopped _ _ _ _ c.from_residual.ensures.0 c.distances.invariant (fronts-same (same g at) c.in_err-add_line.ensures) (joined-at _ _ c.distances.k _ below)
