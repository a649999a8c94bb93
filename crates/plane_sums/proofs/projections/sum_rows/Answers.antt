-- Each pair of rows is counted.
use Rattle.std.proofs.Common.{◌≡◌, ◌+◌, ◌*◌, ◌%◌, ◌<◌, sym, ◌∙◌, arith}
use Rattle.std.proofs.lemmas.Nat.{mod_below}
use Rattle.spin_model.proofs.Tables.{count_below-zero}
use Rattle.spin_model.proofs.Counts.{count-most}
use Rattle.multispin_word.specs.Planes.{is_set}
use Rattle.plane_sums.specs.Lines.{word_in}
use Rattle.plane_sums.proofs.Projecting.{count-two, row-is}
use Rattle.plane_sums.proofs.projections.sum_rows.Goals as goal

pub pairs-init : goal.pairs-init
pairs-init c = λ k b h i. c.clear.ensures k b h ∙ sym (count_below-zero (λ j. is_set (word_in c.args.rows.now j k) b))

pub add_words-requires : goal.add_words-requires
add_words-requires c = (
  omega arith,
  (
    omega arith,
    (
      omega arith,
      (
        omega (arith, c.requires.lawful.1),
        (
          omega (arith, c.requires.lawful.1),
          λ k b h i. omega (arith, c.requires.lawful.1, c.pairs.invariant k b h i, count-most (λ j. is_set (word_in c.args.rows.now j k) b) (2 * c.pairs.pair)),
        ),
      ),
    ),
  ),
)

pub pairs-preserved : goal.pairs-preserved
pairs-preserved c = λ k b h i.
    let rows = c.args.rows.now in
    let p = c.pairs.pair in
    let inside = c.requires.lawful.1 in
    let first = row-is rows (2 * p) c.at-in-pairs.result.now k b c.at-in-pairs.ensures (omega (arith, c.requires.rows)) in
    let second = row-is rows (2 * p + 1) c.at.result.now k b c.at.ensures (omega (arith, c.requires.rows)) in
    let two = count-two (λ j. is_set (word_in rows j k) b) (2 * p) (2 * (p + 1)) (omega arith) in
    omega (arith, c.add_words.ensures k b h i, first, second, two, c.pairs.invariant k b h i)

pub returns : goal.returns
returns c = λ k b h i.
    let size = c.args.size in
    let even = c.requires.lawful.2 in
    let rest : k % size < size = mod_below k size (omega (arith, c.requires.lawful.0)) in
    let all : 2 * c.pairs.pair ≡ size = omega arith in
    c.double.ensures k b h ∙ rw all at (c.pairs.invariant (k % size) b rest i)
