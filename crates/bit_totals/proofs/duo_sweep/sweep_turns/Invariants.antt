use Rattle.bit_totals.proofs.DuoCounts.{IsCounting}
use Rattle.bit_totals.proofs.duo_sweep.sweep_turns.Given as goal

abbrev pub invariant-turns : goal.invariant-turns
invariant-turns g l = record {
  first : IsCounting l.dynamics.couplings.now l.dynamics.rule.now l.i l.turn l.fn.first l.first l.tallies.0.rows;
  second : IsCounting l.dynamics.couplings.now l.dynamics.rule.now l.i l.turn l.fn.second l.second l.tallies.1.rows;
}
