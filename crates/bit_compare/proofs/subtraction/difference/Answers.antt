-- Each plane keeps the equation of difference and borrow; after the last it is that of the numbers.
use Rattle.std.proofs.Common.{◌≡◌, length, length-set, ◌∙◌, arith}
use Rattle.std.proofs.lemmas.Nat.Bits.{bit_at-zero}
use Rattle.multispin_word.proofs.Numbers.{first-none, number-lt, whole}
use Rattle.bit_compare.proofs.Adding.{rest-more}
use Rattle.bit_compare.proofs.subtraction.difference.Goals as goal

pub planes-init : goal.planes-init
planes-init g c = record {
  long = omega arith;
  taken = λ k h. omega (
    arith,
    first-none c.zero-rest.result.words k,
    first-none c.args.a.now k,
    first-none c.args.b.now k,
    bit_at-zero k,
  );
}

pub planes-preserved : goal.planes-preserved
planes-preserved g c = record {
  long = length-set c.planes.rest.words c.planes.w _ ∙ c.planes.invariant.long;
  taken = λ k h. rest-more c.planes.rest.words c.args.a.now c.args.b.now c.planes.w _ c.planes.borrow _ k
      (omega (arith, c.planes.invariant.long)) (c.planes.invariant.taken k h)
      (c.full_subtractor-word.ensures k h);
}

pub returns-clause-difference : goal.returns-clause-difference
returns-clause-difference g c = λ k h.
    let a = c.args.a.now in
    let b = c.args.b.now in
    let new = c.planes.rest.words in
    let w = c.planes.w in
    let last : w ≡ g.row.W = omega arith in
    let new_whole = whole new w k (omega (arith, c.planes.invariant.long)) in
    let a_whole = whole a w k (omega arith) in
    let b_whole = whole b w k (omega arith) in
    rw (← last, ← new_whole, ← a_whole, ← b_whole) (c.planes.invariant.taken k h)

pub returns-clause-bounds : goal.returns-clause-bounds
returns-clause-bounds g c = λ k.
    let b = c.args.b.now in
    let new = c.planes.rest.words in
    let b_long : length b ≡ g.row.W = omega arith in
    let new_long : length new ≡ g.row.W = omega (arith, c.planes.invariant.long) in
    (number-lt new _ k new_long, number-lt b _ k b_long)

pub returns-clause-bound : goal.returns-clause-bound
returns-clause-bound g c = λ k. number-lt c.args.a.now _ k (omega arith)
