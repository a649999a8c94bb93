-- Numbers are equal where they are equal below a plane and in it.
use Rattle.std.proofs.Common.{refl, arith}
use Rattle.multispin_word.proofs.Bits.{is_set-ones}
use Rattle.multispin_word.proofs.Numbers.{first-none, number-lt}
use Rattle.bit_compare.proofs.Adding.{equal-more}
use Rattle.bit_compare.proofs.comparison.equal.Goals as goal

pub planes-init : goal.planes-init
planes-init g c = λ k h. rw (is_set-ones k h, first-none c.args.a.now k, first-none c.args.b.now k) refl

pub planes-preserved : goal.planes-preserved
planes-preserved g c = λ k h.
    equal-more c.args.a.now c.args.b.now c.planes.w c.planes.same c.equal_bits-same.result k
    (c.equal_bits-same.ensures k h) (c.planes.invariant k h)

pub returns-clause-bound : goal.returns-clause-bound
returns-clause-bound g c = λ k. number-lt c.args.a.now _ k (omega arith)
