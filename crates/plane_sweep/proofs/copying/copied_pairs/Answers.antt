use Rattle.std.proofs.Common.{◌≡◌, [], ◌∷◌, ◌++◌, ◌∙◌, arith}
use Rattle.std.proofs.lemmas.List.{take_all}
use Rattle.plane_sweep.proofs.Gathering.{copied-more}
use Rattle.plane_sweep.proofs.copying.copied_pairs.Goals as goal

pub pairs-init : goal.pairs-init
pairs-init c = c.in_ok-copies.ensures.items

pub pairs-preserved : goal.pairs-preserved
pairs-preserved c =
    let pushed : c.push.new.self.items ≡ c.pairs.copies.items ++ c.copy.result ∷ [] = c.in_ok-push.ensures.items in
    copied-more _ _ _ _ _ _ pushed c.pairs.invariant c.copy.ensures c.at.ensures (omega arith)

pub returns : goal.returns
returns c = c.of.ensures ∙ c.pairs.invariant ∙ take_all _ _ (omega arith)
