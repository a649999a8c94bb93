-- The places so far are added up.
use Rattle.std.proofs.Common.{◌≡◌, ℕ, ◌<◌}
use Rattle.multispin_word.specs.Planes.{number}
use Rattle.scalar_rule.specs.Positions.{sum_below}
use Rattle.plane_sums.specs.Counts.{count_at}
use Rattle.plane_sums.proofs.totals.sum_of_line.Given as goal

abbrev pub invariant-places : goal.invariant-places
invariant-places l = (b : ℕ) → b < 64 → number l.sum.words b ≡ sum_below (λ k. count_at l.line.planes k b) l.k
