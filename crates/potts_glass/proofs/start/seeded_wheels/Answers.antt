use Rattle.std.proofs.Common.{rules, ◌≡◌, ◌++◌, ◌∷◌, [], sym, ◌∙◌}
use Rattle.spin_model.proofs.Tables.{table-zero, table-more}
use Rattle.potts_glass.proofs.start.seeded_wheels.Goals as goal

pub wheels-init : goal.wheels-init
wheels-init c = c.in_ok-wheels.ensures.items ∙ sym (table-zero _)

pub wheels-preserved : goal.wheels-preserved
wheels-preserved c =
    let pushed : c.push.new.self.items ≡ c.wheels.wheels.items ++ c.seeded.result ∷ [] = search rules in
    pushed ∙ rw (c.wheels.invariant, c.seeded.ensures, c.size-size.ensures.value) (sym (table-more _ _))
