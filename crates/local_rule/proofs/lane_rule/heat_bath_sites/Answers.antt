use Rattle.local_rule.proofs.lane_rule.heat_bath_sites.Goals as goal

pub returns-then-rising : goal.returns-then-rising
returns-then-rising g c = c.heat_bath_rising.ensures

pub returns-else-rising : goal.returns-else-rising
returns-else-rising g c = λ i b h l. rw c.copy-ready.ensures at (c.heat_bath_any.ensures i b h l)
