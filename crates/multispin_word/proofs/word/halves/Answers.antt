-- The low half has the first 32 samples, the high half the others.
use Rattle.multispin_word.proofs.Halves.{is_set-low, is_set-high}
use Rattle.multispin_word.proofs.word.halves.Goals as goal

pub returns-clause-low : goal.returns-clause-low
returns-clause-low c = λ b h. is_set-low c.args.word b h

pub returns-clause-high : goal.returns-clause-high
returns-clause-high c = λ b h. is_set-high c.args.word b
