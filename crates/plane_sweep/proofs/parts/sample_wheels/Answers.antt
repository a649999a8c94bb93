use Rattle.std.proofs.Common.{◌≡◌, [], ◌∷◌, ◌++◌, map, ap, ◌∙◌, arith}
use Rattle.std.proofs.lemmas.List.{take_all}
use Rattle.plane_sweep.proofs.Gathering.{mapped-more}
use Rattle.plane_sweep.proofs.parts.sample_wheels.Goals as goal

pub planes-init : goal.planes-init
planes-init c = c.in_ok-wheels.ensures.items

pub planes-preserved : goal.planes-preserved
planes-preserved c =
    let pushed : c.push.new.self.items ≡ c.planes.wheels.items ++ c.copy.result ∷ [] = c.in_ok-push.ensures.items in
    mapped-more _ _ _ _ _ _ _ pushed c.planes.invariant c.copy.ensures c.at.ensures (omega arith)

pub returns : goal.returns
returns c = c.of.ensures ∙ c.planes.invariant ∙ ap (map _) (take_all _ _ (omega arith))
