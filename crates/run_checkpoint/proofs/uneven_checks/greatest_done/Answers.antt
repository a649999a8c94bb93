use Rattle.std.proofs.Common.{sym, ◌∙◌, ap, arith, max, map}
use Rattle.scalar_rule.specs.Positions.{greatest, done, position_in}
use Rattle.scalar_rule.proofs.Extremes.{greatest-zero, greatest-more}
use Rattle.plane_sweep.specs.Uneven.{position_of}
use Rattle.run_checkpoint.specs.UnevenDecoding.{places_in}
use Rattle.run_checkpoint.proofs.UnevenPlaces.{last-number}
use Rattle.run_checkpoint.proofs.uneven_checks.greatest_done.Goals as goal

pub slots-init : goal.slots-init
slots-init c = c.done_at-greatest.ensures.value ∙ sym (greatest-zero _)

pub slots-preserved : goal.slots-preserved
slots-preserved c = c.greater-greatest.ensures ∙ ap (λ m. max m c.done_at.result) c.slots.invariant ∙ ap (max _) c.done_at.ensures.value ∙ sym (greatest-more _ c.slots.slot)

pub returns : goal.returns
returns c = c.slots.invariant ∙ ap (greatest (λ t. done (position_in (map position_of (places_in c.args.slots c.args.bytes.now)) t))) (last-number c.args.slots c.slots.slot c.args.bytes.now (search arith) (search arith))
