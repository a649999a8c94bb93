use Rattle.std.proofs.Common.{◌≡◌, [], ◌∷◌, ◌++◌, map, ap, ◌∙◌, arith}
use Rattle.std.proofs.lemmas.List.{take_all}
use Rattle.plane_sweep.specs.Packed.{part_slot}
use Rattle.plane_sweep.proofs.Gathering.{mapped-more}
use Rattle.plane_sweep.proofs.parts.sample_slots.Goals as goal

pub slots-init : goal.slots-init
slots-init c = c.in_ok-parts.ensures.items

pub slots-preserved : goal.slots-preserved
slots-preserved c =
    let pushed : c.push.new.self.items ≡ c.slots.parts.items ++ c.in_ok-sample_slot.field-0 ∷ [] = c.in_ok-push.ensures.items in
    mapped-more _ _ _ _ _ _ _ pushed c.slots.invariant (c.in_ok-sample_slot.ensures ∙ ap (λ l. part_slot l c.args.sample c.at.result.now) c.lattice-lattice.ensures.value) c.at.ensures (omega arith)

pub returns : goal.returns
returns c = c.of.ensures ∙ c.slots.invariant ∙ ap (map _) (take_all _ _ (omega arith))
