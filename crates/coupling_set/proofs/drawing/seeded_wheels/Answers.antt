use Rattle.std.proofs.Common.{rules, ◌≡◌, ◌++◌, ◌∷◌, [], sym, ◌∙◌}
use Rattle.spin_model.proofs.Tables.{table-zero, table-more}
use Rattle.coupling_set.proofs.drawing.seeded_wheels.Goals as goal

pub samples-init : goal.samples-init
samples-init c = c.in_ok-wheels.ensures.items ∙ sym (table-zero _)

pub samples-preserved : goal.samples-preserved
samples-preserved c =
    let pushed : c.push.new.self.items ≡ c.samples.wheels.items ++ c.seeded.result ∷ [] = search rules in
    pushed ∙ rw (c.samples.invariant, c.seeded.ensures) (sym (table-more _ _))
