-- Bits are equal where one differs from the other turned round.
use Rattle.std.proofs.Common.{refl, arith}
use Rattle.multispin_word.proofs.Bits.{is_set-xor, is_set-not}
use Rattle.bit_compare.proofs.comparison.equal_bits.Goals as goal

pub returns : goal.returns
returns c = λ k h. rw (is_set-xor, is_set-not c.args.a k (omega arith) h) refl
