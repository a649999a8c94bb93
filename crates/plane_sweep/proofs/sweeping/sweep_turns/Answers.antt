use Rattle.std.proofs.Common.{subst, arith}
use Rattle.plane_sweep.specs.Order.{SweepsTurn}
use Rattle.plane_sweep.specs.declared.dynamics.HalfPlane.{HalfPlane}
use Rattle.plane_sweep.proofs.BothColours.{way-more, way-ended}
use Rattle.plane_sweep.proofs.sweeping.sweep_turns.Goals as goal

pub turns-preserved : goal.turns-preserved
turns-preserved g c =
    let couplings = c.args.dynamics.now.couplings.now in
    let S : HalfPlane → Type 0 = λ s. SweepsTurn s.couplings.now s.rule.now s.colour s.z c.turns.planes c.sweep_turn.new.planes in
    way-more couplings c.args.dynamics.now.rule.now c.turns.i c.side_of-size.result c.turns.turn c.turn_after-turn.result c.args.planes.now c.turns.planes c.sweep_turn.new.planes
    (c.requires.lawful.0) (omega arith) c.turns.invariant (subst S c.sites_of.ensures c.sweep_turn.ensures) c.side_of-size.ensures.value c.turn_after-turn.ensures

pub returns : goal.returns
returns g c =
    let lawful = c.requires.lawful in
    let way = c.turns.invariant in
    way-ended c.args.dynamics.now.couplings.now c.args.dynamics.now.rule.now c.turns.i way.n way.m c.turns.turn c.args.planes.now c.turns.planes (omega arith) (omega arith) c.requires.planes way.at
