use Rattle.std.proofs.Common.{◌≡◌, [], ◌∷◌, ◌++◌, map, ap, ◌∙◌, arith}
use Rattle.std.proofs.lemmas.List.{take_all}
use Rattle.plane_sweep.proofs.Gathering.{mapped-more}
use Rattle.plane_sweep.proofs.parts.sample_pairs.Goals as goal

pub pairs-init : goal.pairs-init
pairs-init c = c.in_ok-parts.ensures.items

pub pairs-preserved : goal.pairs-preserved
pairs-preserved c =
    let pushed : c.push.new.self.items ≡ c.pairs.parts.items ++ c.sample_pair.result ∷ [] = c.in_ok-push.ensures.items in
    mapped-more _ _ _ _ _ _ _ pushed c.pairs.invariant c.sample_pair.ensures c.at.ensures (omega arith)

pub returns : goal.returns
returns c = c.of.ensures ∙ c.pairs.invariant ∙ ap (map _) (take_all _ _ (omega arith))
