-- All planes' words are there.
use Rattle.std.proofs.Common.{◌<◌, ◌^◌, length, sym, subst, ◌∙◌, arith}
use Rattle.multispin_word.proofs.Numbers.{first-lt}
use Rattle.multispin_word.specs.Planes.{number}
use Rattle.plane_sums.proofs.PlaceNumbers.{place-is}
use Rattle.plane_sums.proofs.counts.Counts.number.Goals as goal

pub returns-clause-value : goal.returns-clause-value
returns-clause-value g c = λ b.
    sym (place-is c.args.self.now.planes c.planes.words c.args.place b (c.planes.invariant.planes_long ∙ sym c.planes.invariant.long)
    (λ w within. sym (c.planes.invariant.done w (omega (arith, c.planes.invariant.long)))))

pub returns-clause-small : goal.returns-clause-small
returns-clause-small g c = λ b.
    subst (λ n. number c.planes.words b < 2 ^ n) c.planes.invariant.long (first-lt c.planes.words (length c.planes.words) b)
