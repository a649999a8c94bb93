-- Each plane has the number's word at the place.
use Rattle.std.proofs.Common.{rules, refl, sym, ◌∙◌, arith}
use Rattle.plane_sums.proofs.PlaceNumbers.{places-same, place-is}
use Rattle.plane_sums.proofs.counts.Counts.put.Goals as goal

pub planes-init : goal.planes-init
planes-init g c = record {
  long = search rules;
  numbers_long = search rules;
  own = λ j none. absurd (omega arith);
  others = λ j k other. refl;
}

pub returns-clause-own : goal.returns-clause-own
returns-clause-own g c = λ b.
    place-is c.planes.self.planes c.args.numbers.now c.args.place b (c.planes.invariant.long ∙ sym c.planes.invariant.numbers_long)
    (λ w within. c.planes.invariant.own w (omega (arith, c.planes.invariant.numbers_long)))

pub returns-clause-others : goal.returns-clause-others
returns-clause-others g c = λ k b other.
    places-same c.planes.self.planes c.args.self.now.planes k k b (search (rules, c.planes.invariant.long)) (λ w within. c.planes.invariant.others w k other)
