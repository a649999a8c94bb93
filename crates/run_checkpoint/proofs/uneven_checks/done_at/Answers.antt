-- The position of the slot is what its bytes are.
use Rattle.std.proofs.Common.{sym, ◌∙◌, ap, ◌+◌}
use Rattle.scalar_rule.specs.Positions.{done}
use Rattle.run_checkpoint.specs.UnevenDecoding.{epoch_in}
use Rattle.run_checkpoint.proofs.UnevenPlaces.{position-at}
use Rattle.run_checkpoint.proofs.uneven_checks.done_at.Goals as goal

pub returns-clause-value : goal.returns-clause-value
returns-clause-value c =
    ap (λ e. e + c.one_if.result) c.u64_at.ensures
    ∙ ap (λ w. epoch_in c.args.bytes.now c.args.slot + w) c.one_if.ensures.value
    ∙ sym (ap done (position-at c.args.slots c.args.slot c.args.bytes.now c.requires.slot))
