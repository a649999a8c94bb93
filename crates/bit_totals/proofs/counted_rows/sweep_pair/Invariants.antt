-- In both rows the sites before column k have their new spins, and their bonds are counted.
use Rattle.std.proofs.Common.{◌≡◌, ℕ, zero, ◌+◌, ◌-◌, ◌%◌, ◌<◌, ◌≤◌}
use Rattle.bit_totals.specs.CountedRows.{SweepsPair}
use Rattle.bit_totals.specs.RowBonds.{pair_count}
use Rattle.bit_totals.specs.Tallies.{tallied}
use Rattle.bit_totals.proofs.counted_rows.sweep_pair.Given as goal

abbrev pub invariant-eights : goal.invariant-eights
invariant-eights g l = record {
  within : l.k ≤ l.first.half;
  fours : l.k % 4 ≡ 0;
  swept : SweepsPair l.lent l.first l.second zero l.k l.fn.own l.own;
  counted : (b : ℕ) → b < 64 → tallied l.counts b ≡ tallied l.fn.counts b + pair_count l.own l.lent.around l.first l.second b l.k;
}

abbrev pub decreases-eights : goal.decreases-eights
decreases-eights g l = l.first.half - l.k

abbrev pub invariant-fours : goal.invariant-fours
invariant-fours g l = record {
  within : l.k ≤ l.first.half;
  fours : l.k % 4 ≡ 0;
  swept : SweepsPair l.lent l.first l.second zero l.k l.fn.own l.own;
  counted : (b : ℕ) → b < 64 → tallied l.counts b ≡ tallied l.fn.counts b + pair_count l.own l.lent.around l.first l.second b l.k;
}

abbrev pub decreases-fours : goal.decreases-fours
decreases-fours g l = l.first.half - l.k
