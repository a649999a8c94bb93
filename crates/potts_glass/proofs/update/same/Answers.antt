-- Neither bit differs.
use Rattle.std.proofs.Common.{get_or, bit_xor}
use Rattle.multispin_word.specs.Planes.{is_set}
use Rattle.multispin_word.proofs.Bits.{is_set-or, is_set-xor}
use Rattle.potts_glass.proofs.Cases.{same-bits}
use Rattle.potts_glass.proofs.Colours.{colour-by_bits}
use Rattle.potts_glass.proofs.update.same.Goals as goal

pub returns : goal.returns
returns c = λ k h.
    let a = c.args.a in
    let b = c.args.b in
    rw (
      c.others.ensures k h,
      is_set-or (bit_xor (get_or a 0 0) (get_or b 0 0)) (bit_xor (get_or a 1 0) (get_or b 1 0)) k,
      is_set-xor (get_or a 0 0) (get_or b 0 0) k,
      is_set-xor (get_or a 1 0) (get_or b 1 0) k,
      colour-by_bits a k,
      colour-by_bits b k,
    )
    (same-bits (is_set (get_or a 0 0) k) (is_set (get_or a 1 0) k) (is_set (get_or b 0 0) k) (is_set (get_or b 1 0) k))
