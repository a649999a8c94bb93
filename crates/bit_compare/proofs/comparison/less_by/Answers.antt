-- A difference that borrows is below two to the number of planes by the difference the other way.
use Rattle.std.proofs.Common.{◌^◌, ◌∙◌}
use Rattle.std.specs.Int.{bit_at}
use Rattle.std.proofs.lemmas.Nat.Bits.{bit_at-lt}
use Rattle.multispin_word.specs.Planes.{number}
use Rattle.bit_compare.proofs.Adding.{lacked-taken}
use Rattle.bit_compare.proofs.comparison.less_by.Goals as goal

pub returns-clause-more : goal.returns-clause-more
returns-clause-more g c = λ k h.
    let bounds = c.difference-rest.ensures.bounds k in
    c.complement.ensures k h
    ∙ lacked-taken (number c.args.a.now.words k) (number c.args.b.now.words k) _ (2 ^ g.row.W)
    (bit_at c.difference-rest.result.1 k) (bit_at-lt _ k) (c.difference-rest.ensures.difference k h) bounds.0
    (c.difference-rest.ensures.bound k)
