use Rattle.plane_sweep.proofs.BothColours.{IsOnTheWay}
use Rattle.plane_sweep.proofs.sweeping.sweep_turns.Given as goal

abbrev pub invariant-turns : goal.invariant-turns
invariant-turns g l = IsOnTheWay l.dynamics.couplings.now l.dynamics.rule.now l.i l.turn l.fn.planes l.planes
