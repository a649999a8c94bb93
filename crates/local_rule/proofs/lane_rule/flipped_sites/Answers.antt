use Rattle.local_rule.proofs.lane_rule.flipped_sites.Goals as goal

pub returns-then-falling : goal.returns-then-falling
returns-then-falling g c = c.flipped_falling.ensures

pub returns-else-falling : goal.returns-else-falling
returns-else-falling g c = λ i b h l. rw c.copy-ready.ensures at (c.flipped_any.ensures i b h l)
