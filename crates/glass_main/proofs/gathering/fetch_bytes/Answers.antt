use Rattle.glass_main.proofs.Fetching.{gathers_fetched, fetched-level, fetched-levels, fetched-states, fetched-banks}
use Rattle.glass_main.proofs.gathering.fetch_bytes.Goals as goal

pub returns : goal.returns
returns g c =
    let fetch = c.fetch.ensures in
    record {
      asked = gathers_fetched c.args.role c.args.name.now _ _ _ _ _ _ _ _ _ c.gathered.ensures c.limit.ensures
          fetch.held fetch.limit fetch.absent fetch.above fetch.long fetch.length fetch.failed fetch.quiet fetch.later fetch.same fetch.lengths_stay;
      level = fetched-level c.args.role _ _ c.gathered.ensures;
      levels = fetched-levels c.args.role _ _ c.gathered.ensures;
      states = fetched-states c.args.role _ _ c.gathered.ensures;
      banks = λ many. fetched-banks many c.args.role _ _ c.gathered.ensures;
    }
