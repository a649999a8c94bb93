-- Both words have for each sample the spin that Metropolis gives it.
use Rattle.std.proofs.Common.{sym, ◌∙◌, arith}
use Rattle.local_rule.proofs.Counts.{same-word}
use Rattle.local_rule.proofs.laws.metropolis_both_ways.Goals as goal

pub returns-clause-same : goal.returns-clause-same
returns-clause-same c = same-word _ _ (omega arith) (omega arith) (λ b h. rw (c.word_at.ensures) (c.metropolis_lanes.ensures c.args.lane b (omega arith) h) ∙ sym (rw (c.words_of.ensures) at (c.metropolis-alone.ensures b h)))
