use Rattle.std.proofs.Common.{List, subst, arith}
use Rattle.plane_sweep.specs.Order.{SweepsTurn}
use Rattle.plane_sweep.specs.declared.dynamics.HalfPlane.{HalfPlane}
use Rattle.plane_sweep.specs.declared.replica.Plane.{Plane}
use Rattle.plane_sweep.proofs.BothColours.{way-more, way-ended}
use Rattle.plane_sweep.proofs.duos.sweep_turns.Goals as goal

pub turns-preserved : goal.turns-preserved
turns-preserved g c =
    let couplings = c.args.dynamics.now.couplings.now in
    let rule = c.args.dynamics.now.rule.now in
    let S : List Plane → List Plane → HalfPlane → Type 0 = λ old new s. SweepsTurn s.couplings.now s.rule.now s.colour s.z old new in
    let new = c.sweep_turn_of_duo.new in
    let is = c.sites_of.ensures in
    let side = c.side_of-size.ensures.value in
    let after = c.turn_after-turn.ensures in
    let way = c.turns.invariant in
    record {
      first = way-more couplings rule c.turns.i c.side_of-size.result c.turns.turn c.turn_after-turn.result c.args.first.now c.turns.first new.first c.requires.lawful.0 (omega arith) way.first (subst (S c.turns.first new.first) is c.sweep_turn_of_duo.ensures.first) side after;
      second = way-more couplings rule c.turns.i c.side_of-size.result c.turns.turn c.turn_after-turn.result c.args.second.now c.turns.second new.second c.requires.lawful.0 (omega arith) way.second (subst (S c.turns.second new.second) is c.sweep_turn_of_duo.ensures.second) side after;
    }

pub returns-clause-first : goal.returns-clause-first
returns-clause-first g c =
    let lawful = c.requires.lawful in
    let way = c.turns.invariant.first in
    way-ended c.args.dynamics.now.couplings.now c.args.dynamics.now.rule.now c.turns.i way.n way.m c.turns.turn c.args.first.now c.turns.first (omega arith) (omega arith) c.requires.first way.at

pub returns-clause-second : goal.returns-clause-second
returns-clause-second g c =
    let lawful = c.requires.lawful in
    let way = c.turns.invariant.second in
    way-ended c.args.dynamics.now.couplings.now c.args.dynamics.now.rule.now c.turns.i way.n way.m c.turns.turn c.args.second.now c.turns.second (omega arith) (omega arith) c.requires.second way.at
