-- The places below `at` are counted.
use Rattle.std.proofs.Common.{◌≡◌, ℕ, ◌+◌, ◌-◌, ◌<◌, ◌≤◌, length}
use Rattle.bit_totals.specs.Tallies.{tallied, mixed, set_below}
use Rattle.bit_totals.proofs.tally.Tally.add.Given as goal

abbrev pub invariant-long_blocks : goal.invariant-long_blocks
invariant-long_blocks l = record {
  within : l.at ≤ length l.first;
  counted : (b : ℕ) → b < 64 → tallied l.self.rows b ≡ tallied l.fn.self.rows b + set_below (mixed l.first l.second l.third) b l.at;
}

abbrev pub decreases-long_blocks : goal.decreases-long_blocks
decreases-long_blocks l = length l.first - l.at

abbrev pub invariant-fours : goal.invariant-fours
invariant-fours l = record {
  within : l.at ≤ length l.first;
  counted : (b : ℕ) → b < 64 → tallied l.self.rows b ≡ tallied l.fn.self.rows b + set_below (mixed l.first l.second l.third) b l.at;
}

abbrev pub decreases-fours : goal.decreases-fours
decreases-fours l = length l.first - l.at

abbrev pub invariant-rows : goal.invariant-rows
invariant-rows l = record {
  within : l.at < length l.first + 4;
  counted : (b : ℕ) → b < 64 → tallied l.self.rows b ≡ tallied l.fn.self.rows b + set_below (mixed l.first l.second l.third) b l.at;
}

abbrev pub decreases-rows : goal.decreases-rows
decreases-rows l = length l.first + 4 - l.at
