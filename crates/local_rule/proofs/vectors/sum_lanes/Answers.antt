-- In each lane the low bit of a sum.
use Rattle.local_rule.proofs.Lanes.{summed-long, summed-at}
use Rattle.local_rule.proofs.vectors.sum_lanes.Goals as goal

pub returns-clause-length : goal.returns-clause-length
returns-clause-length g c = summed-long c.args.a c.args.b c.args.c c.requires.0 c.requires.1 c.requires.2

pub returns-clause-sum : goal.returns-clause-sum
returns-clause-sum g c = λ i k h. summed-at c.args.a c.args.b c.args.c i k c.requires.0 c.requires.1 c.requires.2 h
