-- The lines so far are added up.
use Rattle.std.proofs.Common.{◌≡◌, ℕ, ◌+◌, ◌<◌}
use Rattle.scalar_rule.specs.Positions.{sum_below}
use Rattle.plane_sums.specs.Counts.{count_at, line_at}
use Rattle.plane_sums.specs.Lines.{begins_at}
use Rattle.plane_sums.proofs.totals.sum_across.Given as goal

abbrev pub invariant-lines : goal.invariant-lines
invariant-lines l = (m b : ℕ) → m < l.size → b < 64 → count_at l.total.planes m b
    ≡ sum_below (λ o. count_at (line_at l.lines o) (begins_at l.turn l.size o + m) b) l.line
