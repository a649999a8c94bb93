-- A number is the value where it is the cut value and nothing was cut.
use Rattle.std.proofs.Common.{◌^◌, arith}
use Rattle.std.proofs.lemmas.Nat.{one_shl}
use Rattle.multispin_word.specs.Planes.{number}
use Rattle.multispin_word.proofs.Bits.{is_set-and}
use Rattle.bit_compare.proofs.Adding.{equal-cut}
use Rattle.bit_compare.proofs.comparison.equals_const.Goals as goal

pub returns : goal.returns
returns g c = λ k h.
    rw (
      is_set-and c.equal.result c.broadcast.result k,
      c.equal.ensures.equal k h,
      c.constant-wanted.ensures k h,
      c.broadcast.ensures k h,
      one_shl g.row.W 32 (omega arith),
    )
    (equal-cut (number c.args.a.now.words k) c.args.value (2 ^ g.row.W) (c.equal.ensures.bound k))
