-- The lines so far are added up.
use Rattle.std.proofs.Common.{◌≡◌, ℕ, ◌<◌}
use Rattle.scalar_rule.specs.Positions.{sum_below}
use Rattle.plane_sums.specs.Counts.{count_at, line_at}
use Rattle.plane_sums.proofs.totals.sum_along.Given as goal

abbrev pub invariant-lines : goal.invariant-lines
invariant-lines l = (m b : ℕ) → m < l.line → b < 64 → count_at l.total.planes m b ≡ sum_below (λ k. count_at (line_at l.lines m) k b) l.size
