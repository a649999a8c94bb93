use Rattle.std.proofs.Common.{ℕ, List, ap, sym, subst, arith}
use Rattle.plane_sweep.specs.Order.{SweepsTurn}
use Rattle.plane_sweep.specs.declared.dynamics.HalfPlane.{HalfPlane}
use Rattle.plane_sweep.specs.declared.replica.Plane.{Plane}
use Rattle.bit_totals.specs.CountedTurns.{CountsTurn, HasRoom}
use Rattle.bit_totals.proofs.DuoCounts.{counting-begun, counting-more, counting-ended, counting-room}
use Rattle.bit_totals.proofs.duo_sweep.sweep_turns.Goals as goal

pub turns-init : goal.turns-init
turns-init g c =
    let couplings = c.args.dynamics.now.couplings.now in
    let rule = c.args.dynamics.now.rule.now in
    record {
      first = counting-begun couplings rule c.first_turn-turn.result c.args.first.now _ c.requires.lawful c.first_turn-turn.ensures c.requires.first c.none.ensures;
      second = counting-begun couplings rule c.first_turn-turn.result c.args.second.now _ c.requires.lawful c.first_turn-turn.ensures c.requires.second c.none-2.ensures;
    }

pub sweep_turn-requires-clause-first_room : goal.sweep_turn-requires-clause-first_room
sweep_turn-requires-clause-first_room g c =
    let couplings = c.args.dynamics.now.couplings.now in
    let rows = c.turns.tallies.0.rows in
    let R : ℕ → Type 0 = λ l. HasRoom l rows in
    subst R (sym (ap (λ (s : HalfPlane). s.couplings.now.size) c.sites_of-sites.ensures)) (counting-room couplings c.args.dynamics.now.rule.now c.turns.i c.turns.turn c.args.first.now c.turns.first rows c.requires.lawful c.turns.invariant.first)

pub sweep_turn-requires-clause-second_room : goal.sweep_turn-requires-clause-second_room
sweep_turn-requires-clause-second_room g c =
    let couplings = c.args.dynamics.now.couplings.now in
    let rows = c.turns.tallies.1.rows in
    let R : ℕ → Type 0 = λ l. HasRoom l rows in
    subst R (sym (ap (λ (s : HalfPlane). s.couplings.now.size) c.sites_of-sites.ensures)) (counting-room couplings c.args.dynamics.now.rule.now c.turns.i c.turns.turn c.args.second.now c.turns.second rows c.requires.lawful c.turns.invariant.second)

pub turns-preserved : goal.turns-preserved
turns-preserved g c =
    let couplings = c.args.dynamics.now.couplings.now in
    let rule = c.args.dynamics.now.rule.now in
    let S : List Plane → List Plane → HalfPlane → Type 0 = λ old new s. SweepsTurn s.couplings.now s.rule.now s.colour s.z old new in
    let C : List Plane → List (List ℕ) → List (List ℕ) → HalfPlane → Type 0 = λ new rows rows' s. CountsTurn s.couplings.now s.colour s.z new rows rows' in
    let new = c.sweep_turn.new in
    let now = c.turns in
    let made = c.sweep_turn.ensures in
    let is = c.sites_of-sites.ensures in
    let side = c.side_of-size.ensures.value in
    let after = c.turn_after-turn.ensures in
    record {
      first =
          counting-more couplings rule now.i c.side_of-size.result now.turn c.turn_after-turn.result c.args.first.now now.first new.first now.tallies.0.rows new.tallies.0.rows c.requires.lawful (omega arith)
          now.invariant.first (subst (S now.first new.first) is made.swept_first) (subst (C new.first now.tallies.0.rows new.tallies.0.rows) is made.first) side after;
      second =
          counting-more couplings rule now.i c.side_of-size.result now.turn c.turn_after-turn.result c.args.second.now now.second new.second now.tallies.1.rows new.tallies.1.rows c.requires.lawful (omega arith)
          now.invariant.second (subst (S now.second new.second) is made.swept_second) (subst (C new.second now.tallies.1.rows new.tallies.1.rows) is made.second) side after;
    }

pub returns-clause-first : goal.returns-clause-first
returns-clause-first g c =
    counting-ended c.args.dynamics.now.couplings.now c.args.dynamics.now.rule.now c.turns.i c.turns.turn c.args.first.now c.turns.first c.turns.tallies.0.rows c.requires.lawful (omega arith) c.requires.first c.turns.invariant.first

pub returns-clause-second : goal.returns-clause-second
returns-clause-second g c =
    counting-ended c.args.dynamics.now.couplings.now c.args.dynamics.now.rule.now c.turns.i c.turns.turn c.args.second.now c.turns.second c.turns.tallies.1.rows c.requires.lawful (omega arith) c.requires.second c.turns.invariant.second
