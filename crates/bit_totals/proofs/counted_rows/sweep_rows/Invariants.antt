-- The sites of the rows before the pair have their new spins, and their bonds are counted.
use Rattle.std.proofs.Common.{◌≡◌, ℕ, ◌+◌, ◌*◌, ◌/◌, ◌<◌}
use Rattle.plane_sweep.specs.PlaneSweep.{SweepsWords, IsRow}
use Rattle.bit_totals.specs.RowBonds.{plane_count}
use Rattle.bit_totals.specs.Tallies.{tallied}
use Rattle.bit_totals.proofs.counted_rows.sweep_rows.Given as goal

abbrev pub invariant-pairs : goal.invariant-pairs
invariant-pairs g l = record {
  words : SweepsWords l.sites.couplings.now l.other l.lent.rule l.lent.draws.now l.sites.colour l.sites.z (2 * l.i * (l.sites.couplings.now.size / 2)) l.fn.own l.own;
  row : IsRow l.sites.couplings.now.size l.sites.colour l.sites.z (2 * l.i) l.row;
  counted : (b : ℕ) → b < 64 → tallied l.counts b
      ≡ tallied l.fn.counts b + plane_count l.sites.couplings.now l.other l.sites.colour l.sites.z l.own b (2 * l.i * (l.sites.couplings.now.size / 2));
}
