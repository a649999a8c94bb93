use Rattle.std.proofs.Common.{rules, ◌≡◌, ◌++◌, ◌∷◌, [], sym, ◌∙◌}
use Rattle.spin_model.proofs.Tables.{table-zero, table-more}
use Rattle.scalar_rule.proofs.opening.opening_slots.Goals as goal

pub opened-init : goal.opened-init
opened-init c = c.in_ok-slots.ensures.items ∙ sym (table-zero _)

pub opened-preserved : goal.opened-preserved
opened-preserved c =
    let pushed : c.push.new.self.items ≡ c.opened.slots.items ++ c.in_ok-opening_slot.field-0 ∷ [] = search rules in
    pushed ∙ rw (c.opened.invariant, c.in_ok-opening_slot.ensures) (sym (table-more _ _))
