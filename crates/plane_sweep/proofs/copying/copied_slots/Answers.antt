use Rattle.std.proofs.Common.{◌≡◌, [], ◌∷◌, ◌++◌, ◌∙◌, arith}
use Rattle.std.proofs.lemmas.List.{take_all}
use Rattle.plane_sweep.proofs.Gathering.{copied-more}
use Rattle.plane_sweep.proofs.copying.copied_slots.Goals as goal

pub slots-init : goal.slots-init
slots-init c = c.in_ok-copies.ensures.items

pub slots-preserved : goal.slots-preserved
slots-preserved c =
    let pushed : c.push.new.self.items ≡ c.slots.copies.items ++ c.in_ok-copied_slot.field-0 ∷ [] = c.in_ok-push.ensures.items in
    copied-more _ _ _ _ _ _ pushed c.slots.invariant c.in_ok-copied_slot.ensures c.at.ensures (omega arith)

pub returns : goal.returns
returns c = c.of.ensures ∙ c.slots.invariant ∙ take_all _ _ (omega arith)
