use Rattle.std.proofs.Common.{arith}
use Rattle.multispin_word.proofs.Bits.{is_set-not}
use Rattle.potts_glass.proofs.update.others.Goals as goal

pub returns : goal.returns
returns c = λ b h. is_set-not c.args.word b (omega arith) h
