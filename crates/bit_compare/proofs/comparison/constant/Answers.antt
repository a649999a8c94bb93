-- Each plane adds one bit of the value.
use Rattle.std.proofs.Common.{length-set, sym, ◌∙◌, arith}
use Rattle.std.proofs.Math.Nat.{mod-one}
use Rattle.multispin_word.proofs.Bits.{same-bit}
use Rattle.multispin_word.proofs.Numbers.{first-none, set-more, low-more}
use Rattle.bit_compare.proofs.comparison.constant.Goals as goal

pub planes-init : goal.planes-init
planes-init g c = record {
  long = omega arith;
  number = λ k h. first-none c.zero-same.result.words k ∙ sym (mod-one _);
}

pub planes-preserved : goal.planes-preserved
planes-preserved g c = record {
  long = length-set c.planes.same.words c.planes.w _ ∙ c.planes.invariant.long;
  number = λ k h.
      let w = c.planes.w in
      let known = c.planes.invariant in
      let bit = same-bit c.broadcast.result k c.args.value w (c.broadcast.ensures k h ∙ c.bit.ensures) in
      set-more c.planes.same.words w _ k _ _ _ (omega (arith, known.long)) (known.number k h) bit
      (low-more c.args.value w);
}
