use Rattle.std.proofs.Common.{◌*◌, ◌/◌}
use Rattle.plane_sweep.specs.PlaneSweep.{SweepsWords, IsRow}
use Rattle.plane_sweep.proofs.rows.sweep_any.Given as goal

abbrev pub invariant-pairs : goal.invariant-pairs
invariant-pairs l = record {
  words : SweepsWords l.sites.couplings.now l.other l.rule l.draws l.sites.colour l.sites.z (2 * l.i * (l.sites.couplings.now.size / 2)) l.fn.own l.own;
  row : IsRow l.sites.couplings.now.size l.sites.colour l.sites.z (2 * l.i) l.row;
}
