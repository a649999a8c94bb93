-- Each plane keeps the equation of sum and carry; after the last it is that of the numbers.
use Rattle.std.proofs.Common.{◌≡◌, length-set, refl, ◌∙◌, arith}
use Rattle.std.specs.Int.{bit_at}
use Rattle.std.proofs.lemmas.List.{get_or-set_other}
use Rattle.multispin_word.proofs.Numbers.{first-none, whole}
use Rattle.bit_compare.proofs.Adding.{sum-more}
use Rattle.bit_compare.proofs.addition.ripple_add.Goals as goal

pub planes-init : goal.planes-init
planes-init g c = record {
  long = refl;
  added = λ k. omega (arith, first-none c.args.total.now k, first-none c.args.other.now k);
  rest = λ j h. refl;
}

pub planes-preserved : goal.planes-preserved
planes-preserved g c =
    let known = c.planes.invariant in
    let w = c.planes.w in
    let new = c.planes.total in
    let word = c.full_adder-word.result.0 in
    record {
      long = length-set new w word ∙ known.long;
      added = λ k.
          let adder = rw (c.plane.ensures, known.rest w (omega arith)) at (c.full_adder-word.ensures k) in
          sum-more new c.args.total.now c.args.other.now w word c.planes.carry _ (bit_at c.args.bit k) k
          (omega (arith, known.long)) (known.added k) adder;
      rest = λ j h. get_or-set_other new w j word 0 (λ e. omega (arith, e, h)) ∙ known.rest j (omega arith);
    }

pub returns-clause-sum : goal.returns-clause-sum
returns-clause-sum g c = λ k.
    let old = c.args.total.now in
    let new = c.planes.total in
    let w = c.planes.w in
    let last : w ≡ g.row.W = omega arith in
    let new_whole = whole new w k (omega (arith, c.planes.invariant.long)) in
    let old_whole = whole old w k (omega arith) in
    rw (← last, ← new_whole, ← old_whole) (c.planes.invariant.added k)
