use Rattle.std.proofs.Common.{rules, ◌≡◌}
use Rattle.sample_average.specs.declared.refused.ReportRefused.TheVariants as report
use Rattle.glass_main.specs.Outside.{Output}
use Rattle.command_words.specs.ReadCommand.{read_average_order}
use Rattle.glass_main.specs.declared.refusal.Refusal.TheVariants.{Report}
use Rattle.glass_main.proofs.Reports.{averages-found, report-refused, ends-refused}
use Rattle.glass_main.proofs.average.gather_averages.Goals as goal

pub returns-in-Ok-clause-found : goal.returns-in-Ok-clause-found
returns-in-Ok-clause-found g c =
    averages-found (read_average_order c.args.order.now) _ c.as_slice.result.now c.in-Ok.averages (search rules) c.in-Ok.ensures.gives

pub returns : goal.returns
returns g c =
    let refusal : ¬ (c.in-Err.refused ≡ report.NoMemory) = search rules in
    let order = read_average_order c.args.order.now in
    record {
      found = tt;
      passed = tt;
      stopped = λ (o : Output). ends-refused order (Report c.in-Err.refused) _ _ o
          (record { refusal = refusal; cause = (c.as_slice.result.now, search rules) })
          (report-refused order _ c.as_slice.result.now c.in-Err.refused (search rules) (search rules)) tt (search rules) (search rules);
      same = search rules;
      later = search rules;
    }
