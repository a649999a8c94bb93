use Rattle.std.proofs.Common.{sym, ◌∙◌, arith}
use Rattle.std.proofs.lemmas.List.Elements.{All-set}
use Rattle.plane_sweep.specs.Packed.{ArePairGenerators}
use Rattle.measured_run.proofs.Pairs.{turn-slots, turn-wheels, turn-counted}
use Rattle.measured_run.proofs.exchanging.exchange_in_turn.Goals as goal

pub returns-then-has_turn : goal.returns-then-has_turn
returns-then-has_turn c =
    let plan = c.args.plan.now in
    let k = c.args.pair in
    let e = c.args.epoch in
    let on = sym c.has_turn.ensures ∙ c.if-has_turn.true in
    let w = c.index-pairs-pair.result in
    record {
      slots = λ b h. turn-slots plan b e k c.args.pairs.now w c.args.cells.now c.exchange_pair.new.cells on (omega arith) (c.exchange_pair.ensures.slots b h);
      wheels = turn-wheels e k c.args.pairs.now w c.exchange_pair.new.wheels on (omega arith) c.exchange_pair.ensures.wheels;
      fits = c.exchange_pair.ensures.fits;
      wheels_fit = All-set ArePairGenerators c.args.pairs.now k c.exchange_pair.new.wheels c.exchange_pair.ensures.wheels_fit c.requires.wheels;
      sums = c.exchange_pair.ensures.sums;
      counted = turn-counted plan e k c.args.cells.now c.exchange_pair.new.cells on c.exchange_pair.ensures.others c.requires.counted;
    }
