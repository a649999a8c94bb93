-- The sum of the lanes below one.
use Rattle.std.proofs.Common.{◌≡◌, ℕ, ◌<◌}
use Rattle.multispin_word.specs.Planes.{number}
use Rattle.bit_totals.specs.Tallies.{in_lanes}
use Rattle.bit_totals.proofs.tally.Tally.total.Given as goal

abbrev pub invariant-lanes : goal.invariant-lanes
invariant-lanes l = (b : ℕ) → b < 64 → number l.total.words b ≡ in_lanes l.self.rows b l.lane
