-- One bond more, which no earlier one is.
use Rattle.std.proofs.Common.{◌≢◌, ◌+◌, below_more, arith, ◌∙◌}
use Rattle.spin_model.proofs.Sites.{volume-bound}
use Rattle.coupling_set.proofs.drawing.write_row.Goals as goal

pub overflow_cast-k : goal.overflow_cast-k
overflow_cast-k c = let bound = volume-bound c.args.lattice.now c.requires.lawful in omega arith

pub overflow_add-start : goal.overflow_add-start
overflow_add-start c = let bound = volume-bound c.args.lattice.now c.requires.lawful in omega arith

pub bonds-preserved : goal.bonds-preserved
bonds-preserved c =
    let known = c.bonds.invariant in
    let k = c.bonds.k in
    let word = c.write_word.ensures in
    record {
      written = λ b. below_more _ _
          (λ j less. let other : c.args.start + j ≢ c.args.start + k = omega arith in
          word.others b (c.args.start + j) (omega arith) other ∙ known.written b j less)
          (word.written b);
      before = λ b n less. let other : n ≢ c.args.start + k = omega arith in
          word.others b n (omega arith) other ∙ known.before b n less;
    }
