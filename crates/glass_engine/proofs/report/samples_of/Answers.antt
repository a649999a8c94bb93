use Rattle.std.proofs.Common.{arith, ◌-◌, length, ap}
use Rattle.run_plan.specs.declared.run_file.Orders.{Orders}
use Rattle.glass_engine.specs.BankRuns.{runs_of, samples_in}
use Rattle.glass_engine.proofs.BankReports.{samples-last}
use Rattle.glass_engine.proofs.report.samples_of.Goals as goal

pub returns : goal.returns
returns c =
    let ds = c.args.driven.now in
    let own = ap (λ (o : Orders). o.samples) c.orders.ensures.value in
    let whole = samples-last (samples_in (runs_of ds)) ds (length ds - 1) c.index-driven-behind.result c.requires.samples (omega (arith, c.requires.some)) c.index-driven-behind.is
    (omega (arith, own, c.orders.ensures.lawful.some_samples)) in
    omega (arith, own, whole)
