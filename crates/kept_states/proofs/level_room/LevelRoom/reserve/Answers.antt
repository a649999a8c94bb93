use Rattle.std.specs.Arc.{arc_value}
use Rattle.std.proofs.Common.{map, ap, sym, ◌∙◌, arith}
use Rattle.scalar_rule.specs.Plan.{slots_of}
use Rattle.run_checkpoint.proofs.BankSteps.{shape-at, plan-shape}
use Rattle.kept_states.proofs.level_room.LevelRoom.reserve.Goals as goal

pub returns : goal.returns
returns c =
    let shape = c.requires.shape in
    let plans = map arc_value c.args.plans.now in
    let first = plan-shape arc_value c.args.plans.now 0 c.index-plans-0.result shape (omega (arith, c.requires.some)) c.index-plans-0.is in
    let own = c.in_ok-empty_bank.ensures.places ∙ c.slots.ensures.value ∙ ap slots_of c.deref.ensures ∙ first.1 in
    record {
      fits = omega (arith, c.in_ok-reserve.ensures.spare, c.level_length.ensures.value);
      places = λ k d below. (shape-at shape.size shape.slots plans k d shape.shape below).1 ∙ sym own;
    }
