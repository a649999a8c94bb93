use Rattle.std.proofs.Common.{rules, ◌≡◌, ◌++◌, ◌∷◌, [], sym, ◌∙◌}
use Rattle.spin_model.proofs.Tables.{table-zero, table-more}
use Rattle.scalar_rule.proofs.opening.opening_pairs.Goals as goal

pub opened-init : goal.opened-init
opened-init c = c.in_ok-pairs.ensures.items ∙ sym (table-zero _)

pub opened-preserved : goal.opened-preserved
opened-preserved c =
    let pushed : c.push.new.self.items ≡ c.opened.pairs.items ++ c.opening_pair.result ∷ [] = search rules in
    pushed ∙ rw (c.opened.invariant, c.opening_pair.ensures) (sym (table-more _ _))
