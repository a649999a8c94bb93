-- With its borrow left out, a difference is one modulo two to the number of planes.
use Rattle.std.proofs.Common.{◌^◌}
use Rattle.std.specs.Int.{bit_at}
use Rattle.std.proofs.lemmas.Nat.Bits.{bit_at-lt}
use Rattle.multispin_word.specs.Planes.{number}
use Rattle.bit_compare.proofs.Adding.{taken-mod}
use Rattle.bit_compare.proofs.subtraction.subtract.Goals as goal

pub returns : goal.returns
returns g c = λ k h.
    let bounds = c.difference.ensures.bounds k in
    taken-mod (number c.args.a.now.words k) (number c.args.b.now.words k) _ (2 ^ g.row.W)
    (bit_at c.difference.result.1 k) (bit_at-lt _ k) (c.difference.ensures.difference k h) bounds.0 bounds.1
