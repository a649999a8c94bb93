use Rattle.std.proofs.Common.{arith, ◌∙◌, ap}
use Rattle.sample_average.specs.Averages.{sums_of, slot_rows}
use Rattle.sample_average.specs.Tallies.{averages_view}
use Rattle.sample_average.proofs.Slots.{total-told}
use Rattle.sample_average.proofs.averages.Averages.sums.Goals as goal

pub returns : goal.returns
returns c =
    let keeps = c.self.invariant in
    c.at.ensures ∙ total-told (averages_view c.self.inside) c.self.inside.totals c.args.slot c.at.result.now keeps.fit (omega (arith, keeps.slots, c.requires, ap (λ a. a.header.slots) c.self.view_is)) keeps.totals_told
    ∙ ap (λ a. sums_of (slot_rows a c.args.slot)) c.self.view_is
