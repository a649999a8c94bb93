use Rattle.command_words.specs.ReadCommand.{read_average_order}
use Rattle.glass_main.proofs.Reports.{fetches-report}
use Rattle.glass_main.proofs.average.gather_report.Goals as goal

pub returns : goal.returns
returns g c =
    let fetch = c.fetch.ensures in
    let r = fetches-report (read_average_order c.args.order.now) _ _ _ _ _ _ _ _ _ c.gathered.ensures c.limit.ensures
    fetch.held fetch.limit fetch.absent fetch.above fetch.long fetch.length fetch.failed fetch.quiet fetch.later fetch.same in
    record { found = r.found; limit = r.limit; passed = r.passed; stopped = r.stopped; same = fetch.same; later = fetch.later }
