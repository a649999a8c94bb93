-- One slot more is measured, and its room is as long as before.
use Rattle.std.proofs.Common.{◌+◌, ◌<◌, ◌≤◌, List, length, subst, sym, ◌∙◌, arith}
use Rattle.plane_sweep.specs.declared.stand.Stand.{Stand}
use Rattle.quench_report.specs.Held.{bank_fields, bank_seen, TellsKept}
use Rattle.quench_report.specs.declared.measuring.KeptSums.{KeptSums}
use Rattle.quench_report.proofs.Banks.{room-set, slots-more}
use Rattle.quench_report.proofs.measuring.measure_slots.Goals as goal

pub measure_slot-requires-clause-room : goal.measure_slot-requires-clause-room
measure_slot-requires-clause-room c =
    let has = c.slots.invariant.kept c.args.slots (c.args.state + 1) c.requires.room in
    let own = has.pairs c.slots.slot c.at_mut.result.now (omega (arith, c.slots-test.true, has.slots)) in
    let long : c.args.state + 1 ≤ length c.at_mut.result.now.pairs + 1 =
    subst (λ (s : KeptSums). c.args.state + 1 ≤ length s.pairs + 1) (sym c.at_mut.ensures.value) own in
    omega (arith, long)

pub slots-preserved : goal.slots-preserved
slots-preserved c =
    let t = c.slots.slot in
    let room = c.slots.room in
    let made = c.measure_slot.new.sums in
    let plan = c.args.plan.now in
    let j = c.args.state in
    let w = c.args.bank in
    let within : t < length room = omega (arith, c.slots-test.true, (c.slots.invariant.kept c.args.slots (c.args.state + 1) c.requires.room).slots) in
    record {
      held = slots-more plan.size j room made (bank_seen plan c.args.states.now j w) (bank_fields plan.size c.args.states.now j w) t within c.slots.invariant.held
          (subst (λ (xs : List (List Stand)). TellsKept plan.size j made (bank_seen plan xs j w t) (bank_fields plan.size xs j w t)) c.slots.invariant.same c.measure_slot.ensures.tells);
      kept = λ few times has.
          let now = c.slots.invariant.kept few times has in
          let own = now.pairs t c.at_mut.result.now within in
          let long : times ≤ length c.at_mut.result.now.pairs + 1 = subst (λ (s : KeptSums). times ≤ length s.pairs + 1) (sym c.at_mut.ensures.value) own in
          room-set few times t room made now (omega (arith, long, c.measure_slot.ensures.long));
      same = c.measure_slot.ensures.same ∙ c.slots.invariant.same;
    }
