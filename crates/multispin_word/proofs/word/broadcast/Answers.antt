-- In a word of ones every sample is set.
use Rattle.std.proofs.Common.{sym, ◌∙◌}
use Rattle.multispin_word.proofs.Bits.{is_set-ones}
use Rattle.multispin_word.proofs.word.broadcast.Goals as goal

pub returns-then-value : goal.returns-then-value
returns-then-value c = λ b h. is_set-ones b h ∙ sym c.if-value.true
