-- What is below two to the number of planes has no carry out of them.
use Rattle.std.proofs.Common.{◌^◌, arith}
use Rattle.std.specs.Int.{bit_at}
use Rattle.std.proofs.lemmas.Nat.Bits.{bit_at-zero, bit_at-lt}
use Rattle.bit_compare.proofs.Adding.{no-carry, first-past}
use Rattle.bit_compare.proofs.addition.add.Goals as goal

pub returns : goal.returns
returns g c = λ k h.
    let none = bit_at-zero k in
    let all = first-past c.args.other.now.words g.row.W k (omega (arith, c.ripple_add.ensures.width)) in
    no-carry _ (2 ^ g.row.W) (bit_at c.ripple_add.result k) _ (bit_at-lt _ k)
    (omega (arith, c.ripple_add.ensures.sum k, none, all)) (c.requires.fits k h)
