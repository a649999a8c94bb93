use Rattle.local_rule.proofs.lane_rule.metropolis_sites.Goals as goal

pub returns : goal.returns
returns g c = c.flipped_sites.ensures
