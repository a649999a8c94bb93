-- Each plane adds its worth, and the total stays below 2 ^ 20.
use Rattle.std.proofs.Common.{◌+◌, sym, ◌∙◌, arith}
use Rattle.multispin_word.proofs.Bits.{one_if-is_set}
use Rattle.multispin_word.proofs.Numbers.{first-none, first-more, first-small, whole}
use Rattle.multispin_word.proofs.planes.Planes.number_at.Goals as goal

pub planes-init : goal.planes-init
planes-init g c = sym (first-none _ _)

pub planes-preserved : goal.planes-preserved
planes-preserved g c =
    rw (c.worth-total.ensures, c.bit.ensures, one_if-is_set _ _, c.planes.invariant)
    (sym (first-more c.args.self.now.words c.planes.w c.args.sample))

pub overflow_add-total : goal.overflow_add-total
overflow_add-total g c =
    let small = first-small c.args.self.now.words (c.planes.w + 1) c.args.sample (omega arith) in
    let next = first-more c.args.self.now.words c.planes.w c.args.sample in
    rw (c.worth-total.ensures, c.bit.ensures, one_if-is_set _ _, c.planes.invariant, ← next) (omega arith)

pub returns : goal.returns
returns g c = c.planes.invariant ∙ whole c.args.self.now.words c.planes.w c.args.sample (omega arith)
