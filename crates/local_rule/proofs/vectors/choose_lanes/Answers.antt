-- In each lane a bit is one of the two, by the mask.
use Rattle.local_rule.proofs.Lanes.{chosen-long, chosen-at}
use Rattle.local_rule.proofs.vectors.choose_lanes.Goals as goal

pub returns-clause-length : goal.returns-clause-length
returns-clause-length g c =
    chosen-long c.args.mask c.args.inside c.args.outside c.requires.0 c.requires.1 c.requires.2

pub returns-clause-chosen : goal.returns-clause-chosen
returns-clause-chosen g c = λ i b h.
    chosen-at c.args.mask c.args.inside c.args.outside i b c.requires.0 c.requires.1 c.requires.2 h
