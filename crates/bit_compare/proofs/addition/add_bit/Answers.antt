-- The word goes in as the carry of the lowest plane, and none comes out of the highest.
use Rattle.std.proofs.Common.{◌^◌, [], arith}
use Rattle.std.specs.Int.{bit_at}
use Rattle.std.proofs.lemmas.Nat.Bits.{bit_at-lt}
use Rattle.multispin_word.proofs.Numbers.{first-none}
use Rattle.bit_compare.proofs.Adding.{no-carry, first-past}
use Rattle.bit_compare.proofs.addition.add_bit.Goals as goal

pub returns : goal.returns
returns g c = λ k h.
    let all = first-past [] g.row.W k (omega arith) in
    let none = first-none [] k in
    no-carry _ (2 ^ g.row.W) (bit_at c.ripple_add.result k) _ (bit_at-lt _ k)
    (omega (arith, c.ripple_add.ensures.sum k, none, all)) (c.requires.fits k h)
