use Rattle.std.proofs.Common.{◌≡◌, ◌+◌, ◌++◌, get_or, ap, ◌∙◌, arith}
use Rattle.std.proofs.lemmas.List.{get_or_append_left, get_or-append_right}
use Rattle.spin_model.specs.Steps.{table}
use Rattle.plane_sweep.proofs.FourLanes.{shuffled}
use Rattle.plane_sweep.proofs.lanes.one_on.Goals as goal

pub returns-clause-front : goal.returns-clause-front
unfolding table
returns-clause-front c = λ i below.
    let place : 1 + i ≡ i + 1 = omega arith in
    shuffled c.args.words c.args.behind 1 i (omega arith) ∙ ap (λ n. get_or (c.args.words ++ c.args.behind) n 0) place
    ∙ get_or_append_left c.args.words c.args.behind 0 (i + 1) (omega (arith, c.requires))

pub returns-clause-last : goal.returns-clause-last
unfolding table
returns-clause-last c = shuffled c.args.words c.args.behind 1 3 (omega arith) ∙ get_or-append_right c.args.words c.args.behind 4 4 0 c.requires (omega arith)
