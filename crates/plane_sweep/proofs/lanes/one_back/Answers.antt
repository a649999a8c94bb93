use Rattle.std.proofs.Common.{◌≡◌, ◌+◌, ◌-◌, get_or, ap, ◌∙◌, arith}
use Rattle.std.proofs.lemmas.List.{get_or_append_left, get_or-append_right}
use Rattle.spin_model.specs.Steps.{table}
use Rattle.plane_sweep.proofs.FourLanes.{shuffled}
use Rattle.plane_sweep.proofs.lanes.one_back.Goals as goal

pub returns-clause-first : goal.returns-clause-first
unfolding table
returns-clause-first c = shuffled c.args.before c.args.words 3 0 (omega arith) ∙ get_or_append_left c.args.before c.args.words 0 3 (omega (arith, c.requires))

pub returns-clause-rest : goal.returns-clause-rest
unfolding table
returns-clause-rest c = λ i below.
    let place : 3 + (i + 1) - 4 ≡ i = omega arith in
    shuffled c.args.before c.args.words 3 (i + 1) (omega arith) ∙ get_or-append_right c.args.before c.args.words 4 (3 + (i + 1)) 0 c.requires (omega arith)
    ∙ ap (λ n. get_or c.args.words n 0) place
