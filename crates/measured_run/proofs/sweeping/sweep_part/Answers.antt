use Rattle.std.proofs.Common.{◌≢◌, ◌<◌, length, ◌∙◌, arith}
use Rattle.std.proofs.lemmas.List.{length-set, get_or-set_other}
use Rattle.measured_run.proofs.Sweeps.{swept-more}
use Rattle.measured_run.proofs.sweeping.sweep_part.Goals as goal

pub slots-preserved : goal.slots-preserved
slots-preserved g c =
    let inv = c.slots.invariant in
    let t = c.slots.t in
    let within : t < length c.slots.cells = omega (arith, c.slots-test.true, inv.sized) in
    let x = c.sweep.new.self in
    record {
      sized = length-set c.slots.cells t x ∙ inv.sized;
      done = swept-more c.args.step.now.plan.now c.args.step.now.every c.args.step.now.epoch c.args.first t c.args.cells.now c.slots.cells c.index-cells-t.result x within inv.sized c.sweep.ensures inv.done inv.rest;
      rest = λ j d h. let apart : j ≢ t = (λ e. absurd (omega (arith, e, h))) in get_or-set_other c.slots.cells t j x d apart ∙ inv.rest j d (omega (arith, h));
    }
