-- One state more.
use Rattle.std.proofs.Common.{length, ap, ◌∙◌, arith, length-append}
use Rattle.run_checkpoint.specs.Unfilled.{HasRoom}
use Rattle.run_checkpoint.proofs.Items.{all-more}
use Rattle.run_checkpoint.proofs.bank_decoding.unfilled_stands.Goals as goal

pub banks-preserved : goal.banks-preserved
banks-preserved c = (
  ap length c.in_ok-push.ensures.items ∙ length-append c.banks.stands.items _ ∙ omega (arith, c.banks.invariant.0),
  all-more (HasRoom c.args.size c.args.count) c.banks.stands.items _ _ c.in_ok-push.ensures.items c.banks.invariant.1 c.in_ok-unfilled_stand.ensures.room,
)
