-- The bonds of the sites of both rows before column k are counted.
use Rattle.std.proofs.Common.{◌≡◌, ℕ, ◌+◌, ◌-◌, ◌<◌, ◌≤◌}
use Rattle.bit_totals.specs.RowBonds.{pair_count}
use Rattle.bit_totals.specs.Tallies.{tallied}
use Rattle.bit_totals.proofs.bonds.add_rows.Given as goal

abbrev pub invariant-eights : goal.invariant-eights
invariant-eights g l = record {
  within : l.k ≤ l.first.half;
  counted : (b : ℕ) → b < 64 → tallied l.counts b ≡ tallied l.fn.counts b + pair_count l.own l.around l.first l.second b l.k;
}

abbrev pub decreases-eights : goal.decreases-eights
decreases-eights g l = l.first.half - l.k

abbrev pub invariant-fours : goal.invariant-fours
invariant-fours g l = record {
  within : l.k ≤ l.first.half;
  counted : (b : ℕ) → b < 64 → tallied l.counts b ≡ tallied l.fn.counts b + pair_count l.own l.around l.first l.second b l.k;
}

abbrev pub decreases-fours : goal.decreases-fours
decreases-fours g l = l.first.half - l.k

abbrev pub invariant-rest : goal.invariant-rest
invariant-rest g l = record {
  within : l.k ≤ l.first.half;
  counted : (b : ℕ) → b < 64 → tallied l.counts b ≡ tallied l.fn.counts b + pair_count l.own l.around l.first l.second b l.k;
}

abbrev pub decreases-rest : goal.decreases-rest
decreases-rest g l = l.first.half - l.k
