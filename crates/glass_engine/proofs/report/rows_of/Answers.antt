-- The rows, the spins, and the three parts of the report.
use Rattle.std.proofs.Common.{◌≡◌, ap, ap₂, ◌∙◌}
use Rattle.exchange_board.specs.declared.origin.Origin.{Origin}
use Rattle.exchange_board.specs.Views.{RaggedEndedView}
use Rattle.glass_engine.specs.BankRuns.{for_samples, runs_of, samples_in}
use Rattle.glass_engine.proofs.BankReports.{ended-until, rows-start, spins-start, report-is}
use Rattle.glass_engine.proofs.report.rows_of.Goals as goal
use Rattle.glass_engine.proofs.report.rows_of.Goals.{After-origin}

-- the orders of the whole
orders : (c : After-origin) → c.of_samples.result ≡ for_samples (samples_in (runs_of c.args.driven.now)) c.index-driven-0.result.run.orders
orders c = c.of_samples.ensures ∙ ap₂ for_samples c.samples_of.ensures c.orders.ensures.value

-- the epoch to which the first bank was to go
until : (c : After-origin) → c.origin.result.now.window.until ≡ c.index-driven-0.result.run.until
until c =
    ap (λ (o : Origin). o.window.until) (c.origin.ensures ∙ ap (λ (e : RaggedEndedView). e.origin) c.ended.ensures)
    ∙ ended-until c.args.driven.now c.requires c.index-driven-0.result c.index-driven-0.is

pub returns-clause-ready : goal.returns-clause-ready
returns-clause-ready c =
    let at = (goal.at.returns-clause-ready c).After-origin in
    rows-start c.args.driven.now c.requires c.index-driven-0.result c.index-driven-0.is c.plan-plan.result.now c.plan-plan.ensures c.of_samples.result (orders at)
    c.from.result c.to.result c.origin.result.now.window.until c.from.ensures c.to.ensures (until at) c.slots.result c.slots.ensures.value c.slots.ensures.lawful

pub returns-clause-spins : goal.returns-clause-spins
returns-clause-spins c = λ full.
    let at = (goal.at.returns-clause-spins c).After-origin in
    let have = spins-start c.args.driven.now c.requires c.index-driven-0.result c.index-driven-0.is c.plan-plan.result.now c.plan-plan.ensures c.of_samples.result (orders at)
    c.from.result c.to.result c.origin.result.now.window.until c.from.ensures c.to.ensures (until at) full in
    record { each = have.0; samples = have.1 }

pub returns-clause-text : goal.returns-clause-text
returns-clause-text c =
    let at = (goal.at.returns-clause-text c).After-origin in
    report-is c.args.driven.now c.requires c.index-driven-0.result c.index-driven-0.is c.plan-plan.result.now c.plan-plan.ensures c.of_samples.result (orders at)
    c.from.result c.to.result c.origin.result.now.window.until c.from.ensures c.to.ensures (until at)
