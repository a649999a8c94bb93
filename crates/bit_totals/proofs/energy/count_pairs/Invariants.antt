-- The bonds of the sites of the rows before the pair are counted.
use Rattle.std.proofs.Common.{◌≡◌, ℕ, ◌+◌, ◌*◌, ◌/◌, ◌<◌}
use Rattle.plane_sweep.specs.PlaneSweep.{IsRow}
use Rattle.bit_totals.specs.RowBonds.{plane_count}
use Rattle.bit_totals.specs.Tallies.{tallied}
use Rattle.bit_totals.proofs.energy.count_pairs.Given as goal

abbrev pub invariant-pairs : goal.invariant-pairs
invariant-pairs g l = record {
  counted : (b : ℕ) → b < 64 → tallied l.counts b ≡ tallied l.fn.counts b + plane_count l.plane.couplings.now l.plane.other.now l.plane.colour l.plane.z l.plane.own.now b (2 * l.i * (l.plane.couplings.now.size / 2));
  row : IsRow l.plane.couplings.now.size l.plane.colour l.plane.z (2 * l.i) l.row;
}
