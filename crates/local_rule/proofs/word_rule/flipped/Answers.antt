-- The spin is turned, but where the flip costs energy and is not accepted.
use Rattle.std.proofs.Common.{arith, bit_and}
use Rattle.std.specs.Int.{bit_not, w64}
use Rattle.multispin_word.specs.Planes.{is_set}
use Rattle.multispin_word.proofs.Bits.{is_set-and, is_set-xor, is_set-not}
use Rattle.local_rule.proofs.Cases.{flip}
use Rattle.local_rule.proofs.word_rule.flipped.Goals as goal

pub returns : goal.returns
returns c = λ b h.
    let s = c.args.spin in
    let k = c.args.costly in
    let a = c.args.accepted in
    rw (
      is_set-xor (bit_not w64 s) (bit_and k (bit_not w64 a)) b,
      is_set-not s b (omega arith) h,
      is_set-and k (bit_not w64 a) b,
      is_set-not a b (omega arith) h,
    )
    (flip (is_set s b) (is_set k b) (is_set a b))
