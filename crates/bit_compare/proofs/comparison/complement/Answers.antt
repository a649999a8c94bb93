-- Each plane has the bits that the samples in the word lack.
use Rattle.std.proofs.Common.{◌≡◌, length-set, ◌∙◌, arith}
use Rattle.multispin_word.specs.Planes.{is_set}
use Rattle.multispin_word.proofs.Numbers.{first-none, set-more, whole}
use Rattle.bit_compare.proofs.Adding.{bit-lacked, lacked-more, lacked-none}
use Rattle.bit_compare.proofs.comparison.complement.Goals as goal

pub planes-init : goal.planes-init
planes-init g c = record {
  long = omega arith;
  number = λ k h. first-none c.zero-lacking.result.words k ∙ lacked-none c.args.numbers.now k (is_set c.args.samples k);
}

pub planes-preserved : goal.planes-preserved
planes-preserved g c = record {
  long = length-set c.planes.lacking.words c.planes.w _ ∙ c.planes.invariant.long;
  number = λ k h.
      let w = c.planes.w in
      let known = c.planes.invariant in
      set-more c.planes.lacking.words w _ k _ _ _ (omega (arith, known.long)) (known.number k h)
      (bit-lacked _ c.args.samples k (omega arith) h)
      (lacked-more c.args.numbers.now w k (is_set c.args.samples k));
}

pub returns : goal.returns
returns g c = λ k h.
    let last : c.planes.w ≡ g.row.W = omega arith in
    let new = whole c.planes.lacking.words c.planes.w k (omega (arith, c.planes.invariant.long)) in
    let old = whole c.args.numbers.now c.planes.w k (omega arith) in
    rw (← last, ← new, ← old) (c.planes.invariant.number k h)
