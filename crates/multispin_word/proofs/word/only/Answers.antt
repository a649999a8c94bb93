-- A power of two has one bit set.
use Rattle.std.proofs.Common.{arith}
use Rattle.multispin_word.proofs.Bits.{is_set-power}
use Rattle.multispin_word.proofs.word.only.Goals as goal

pub returns : goal.returns
returns c = λ b. is_set-power c.args.sample b (omega arith)
