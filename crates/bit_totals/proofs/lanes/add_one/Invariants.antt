-- What is carried to row w is worth what is missing to the sum.
use Rattle.std.proofs.Common.{◌≡◌, ℕ, ◌+◌, ◌*◌, ◌^◌, length}
use Rattle.bit_totals.specs.Tallies.{tallied, set_lanes}
use Rattle.bit_totals.proofs.lanes.add_one.Given as goal

abbrev pub invariant-ripple : goal.invariant-ripple
invariant-ripple l = record {
  long : length l.carry ≡ 4;
  added : (b : ℕ) → tallied l.rows b + 2 ^ l.w * set_lanes l.carry b ≡ tallied l.fn.rows b + 2 ^ l.from * set_lanes l.fn.word b;
}
