-- In each lane the high bit of a sum.
use Rattle.local_rule.proofs.Lanes.{carried-long, carried-at}
use Rattle.local_rule.proofs.vectors.carry_lanes.Goals as goal

pub returns-clause-length : goal.returns-clause-length
returns-clause-length g c = carried-long c.args.a c.args.b c.args.c c.requires.0 c.requires.1 c.requires.2

pub returns-clause-carry : goal.returns-clause-carry
returns-clause-carry g c = λ i k h. carried-at c.args.a c.args.b c.args.c i k c.requires.0 c.requires.1 c.requires.2 h
