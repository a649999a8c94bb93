-- One slot more.
use Rattle.std.proofs.Common.{length, ap, ◌∙◌, arith, length-append}
use Rattle.run_checkpoint.specs.Unfilled.{HasReplicas}
use Rattle.run_checkpoint.proofs.Items.{all-more}
use Rattle.run_checkpoint.proofs.unfilled.unfilled_slots.Goals as goal

pub slots-preserved : goal.slots-preserved
slots-preserved c = (
  ap length c.in_ok-push.ensures.items ∙ length-append c.slots.slots.items _ ∙ omega (arith, c.slots.invariant.0),
  all-more (HasReplicas c.args.size) c.slots.slots.items _ _ c.in_ok-push.ensures.items c.slots.invariant.1 c.in_ok-unfilled_slot.ensures,
)
