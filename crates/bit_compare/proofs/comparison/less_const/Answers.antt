-- A number is less than the value where it is less than the cut value or something was cut.
use Rattle.std.proofs.Common.{◌^◌, arith}
use Rattle.std.proofs.lemmas.Nat.{one_shl}
use Rattle.multispin_word.specs.Planes.{number}
use Rattle.multispin_word.proofs.Bits.{is_set-or}
use Rattle.bit_compare.proofs.Adding.{less-cut}
use Rattle.bit_compare.proofs.comparison.less_const.Goals as goal

pub returns : goal.returns
returns g c = λ k h.
    rw (
      is_set-or c.below.result c.broadcast.result k,
      c.below.ensures.below k h,
      c.constant-wanted.ensures k h,
      c.broadcast.ensures k h,
      one_shl g.row.W 32 (omega arith),
    )
    (less-cut (number c.args.a.now.words k) c.args.value (2 ^ g.row.W) (c.below.ensures.bound k))
