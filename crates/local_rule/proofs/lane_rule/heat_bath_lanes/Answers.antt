use Rattle.local_rule.proofs.lane_rule.heat_bath_lanes.Goals as goal

pub returns : goal.returns
returns c = λ i b h l. rw c.of-ready.ensures at (c.heat_bath_sites.ensures i b h l)
