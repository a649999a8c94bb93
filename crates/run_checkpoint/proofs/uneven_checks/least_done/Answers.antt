use Rattle.std.proofs.Common.{sym, ◌∙◌, ap, arith, min, map}
use Rattle.scalar_rule.specs.Positions.{least, done, position_in}
use Rattle.scalar_rule.proofs.Extremes.{least-zero, least-more}
use Rattle.plane_sweep.specs.Uneven.{position_of}
use Rattle.run_checkpoint.specs.UnevenDecoding.{places_in}
use Rattle.run_checkpoint.proofs.UnevenPlaces.{last-number}
use Rattle.run_checkpoint.proofs.uneven_checks.least_done.Goals as goal

pub slots-init : goal.slots-init
slots-init c = c.done_at-least.ensures.value ∙ sym (least-zero _)

pub slots-preserved : goal.slots-preserved
slots-preserved c = c.lesser-least.ensures ∙ ap (λ m. min m c.done_at.result) c.slots.invariant ∙ ap (min _) c.done_at.ensures.value ∙ sym (least-more _ c.slots.slot)

pub returns : goal.returns
returns c = c.slots.invariant ∙ ap (least (λ t. done (position_in (map position_of (places_in c.args.slots c.args.bytes.now)) t))) (last-number c.args.slots c.slots.slot c.args.bytes.now (search arith) (search arith))
