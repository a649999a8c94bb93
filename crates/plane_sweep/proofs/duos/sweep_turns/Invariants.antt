use Rattle.plane_sweep.proofs.BothColours.{IsOnTheWay}
use Rattle.plane_sweep.proofs.duos.sweep_turns.Given as goal

abbrev pub invariant-turns : goal.invariant-turns
invariant-turns g l = record {
  first : IsOnTheWay l.dynamics.couplings.now l.dynamics.rule.now l.i l.turn l.fn.first l.first;
  second : IsOnTheWay l.dynamics.couplings.now l.dynamics.rule.now l.i l.turn l.fn.second l.second;
}
