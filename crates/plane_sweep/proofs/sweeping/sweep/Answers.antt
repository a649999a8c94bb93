use Rattle.plane_sweep.proofs.sweeping.sweep.Goals as goal

pub returns-clause-swept : goal.returns-clause-swept
returns-clause-swept g c = λ b small. c.sweep_replica.ensures.swept c.args.slot b c.rule_of_slot-rule.ensures small
