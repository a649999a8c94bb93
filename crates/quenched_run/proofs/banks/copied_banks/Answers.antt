use Rattle.std.proofs.Common.{◌≡◌, [], ◌∷◌, ◌++◌, ◌∙◌, arith}
use Rattle.std.proofs.lemmas.List.{take_all}
use Rattle.plane_sweep.proofs.Gathering.{copied-more}
use Rattle.quenched_run.proofs.banks.copied_banks.Goals as goal

pub banks-init : goal.banks-init
banks-init c = c.in_ok-copies.ensures.items

pub banks-preserved : goal.banks-preserved
banks-preserved c =
    let pushed : c.push.new.self.items ≡ c.banks.copies.items ++ c.in_ok-copy.field-0 ∷ [] = c.in_ok-push.ensures.items in
    copied-more _ _ _ _ _ _ pushed c.banks.invariant c.in_ok-copy.ensures c.at.ensures (omega arith)

pub returns : goal.returns
returns c = c.of.ensures ∙ c.banks.invariant ∙ take_all _ _ (omega arith)
