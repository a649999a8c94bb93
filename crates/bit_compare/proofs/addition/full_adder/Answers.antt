-- Low and high bit are the sum of the three.
use Rattle.bit_compare.proofs.Adding.{full-adder}
use Rattle.bit_compare.proofs.addition.full_adder.Goals as goal

pub returns : goal.returns
returns c = λ k. full-adder c.args.a c.args.b c.args.carry k
