-- The pieces of the message add up.
use Rattle.run_plan.proofs.Lengths.{length-canonical, length-smallest}
use Rattle.run_plan.proofs.plan_digest.canonical_length.Goals as goal

pub returns-clause-formula : goal.returns-clause-formula
returns-clause-formula c = length-canonical c.args.plan.now c.lattice.ensures.lawful

pub returns-clause-smallest : goal.returns-clause-smallest
returns-clause-smallest c = λ size one heat. length-smallest c.args.plan.now c.lattice.ensures.lawful size one heat
