-- The bit that is left and the borrow are the difference of the three.
use Rattle.std.proofs.Common.{arith}
use Rattle.bit_compare.proofs.Adding.{full-subtractor}
use Rattle.bit_compare.proofs.subtraction.full_subtractor.Goals as goal

pub returns : goal.returns
returns c = λ k h. full-subtractor c.args.a c.args.b c.args.borrow k (omega arith) h
