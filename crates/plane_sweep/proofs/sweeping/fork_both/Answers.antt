use Rattle.std.proofs.Common.{take, drop, ap, ◌∙◌}
use Rattle.plane_sweep.proofs.ColourSweeps.{sweeps-colours}
use Rattle.plane_sweep.proofs.sweeping.fork_both.Goals as goal

pub returns : goal.returns
returns g c =
    sweeps-colours c.args.dynamics.now.couplings.now c.args.dynamics.now.rule.now c.args.planes.now _ _ _ _
    (c.split_at_mut-first.ensures.front ∙ ap (λ n. take n c.args.planes.now) c.requires.size)
    (c.split_at_mut-first.ensures.back ∙ ap (λ n. drop n c.args.planes.now) c.requires.size)
    c.requires.planes.count c.fork_colour.ensures c.fork_colour-2.ensures
