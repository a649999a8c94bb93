use Rattle.std.proofs.Common.{◌*◌, ◌/◌}
use Rattle.plane_sweep.specs.PlaneSweep.{SweepsWords, IsRow}
use Rattle.plane_sweep.proofs.duo_rows.sweep_rows_of_duo.Given as goal

abbrev pub invariant-pairs : goal.invariant-pairs
invariant-pairs g l = record {
  first : SweepsWords l.sites.couplings.now l.others.first.now l.rule l.drawn.first.now l.sites.colour l.sites.z (2 * l.i * (l.sites.couplings.now.size / 2)) l.fn.first l.first;
  second : SweepsWords l.sites.couplings.now l.others.second.now l.rule l.drawn.second.now l.sites.colour l.sites.z (2 * l.i * (l.sites.couplings.now.size / 2)) l.fn.second l.second;
  row : IsRow l.sites.couplings.now.size l.sites.colour l.sites.z (2 * l.i) l.row;
}
