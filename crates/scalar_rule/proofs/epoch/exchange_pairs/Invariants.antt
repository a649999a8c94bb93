use Rattle.scalar_rule.proofs.PairTurns.{Exchanging}
use Rattle.scalar_rule.proofs.epoch.exchange_pairs.Given as goal

abbrev pub invariant-turns : goal.invariant-turns
invariant-turns l = Exchanging l.plan l.bit l.epoch l.fn.pairs l.fn.slots l.pairs l.slots l.pair
