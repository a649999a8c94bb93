use Rattle.std.proofs.Common.{arith, ◌≡◌, ℕ, ◌-◌, ◌*◌, ◌≤◌, get_or, length, ap, sym, subst, ◌∙◌}
use Rattle.std.proofs.lemmas.List.{length-drop, length-map}
use Rattle.glass_edges.proofs.Writing.{writes-same}
use Rattle.exchange_board.specs.declared.origin.Origin.{Origin}
use Rattle.exchange_board.specs.Views.{RaggedEndedView}
use Rattle.scalar_rule.specs.Plan.{slots_of}
use Rattle.scalar_rule.specs.declared.sample.Sample.{Sample}
use Rattle.glass_engine.specs.BankRuns.{runs_of, AreAbreast}
use Rattle.glass_engine.specs.Runs.{DoneView}
use Rattle.glass_engine.specs.Summary.{summary, IsSummed}
use Rattle.glass_engine.proofs.SummaryTexts.{HasSummary, first-summary, summary-enough, summary-taken, last-taken}
use Rattle.glass_engine.proofs.summary.write_summary.Goals as goal
use Rattle.glass_engine.proofs.summary.write_summary.Goals.{After-slots}

-- the first bank's run has a summary
has : (g : _) (c : After-slots g) (start : ℕ → Sample) (e : ℕ) (s : IsSummed c.args.plan.now start e (runs_of c.args.done.now)) → HasSummary s.run start c.index-banks-0.result.ended
has g c start e s =
    let d = c.index-banks-0.result in
    first-summary c.args.plan.now start e c.args.done.now (subst AreAbreast c.banks-banks.ensures.value c.banks-banks.ensures.abreast) s d
    (subst (λ ds. d ≡ get_or ds 0 d) c.banks-banks.ensures.value c.index-banks-0.is)

-- its records and its slots
records : (g : _) (c : After-slots g) → c.records-records.result.now ≡ c.index-banks-0.result.ended.records
records g c = c.records-records.ensures ∙ ap (λ (e : RaggedEndedView). e.records) c.ended-ended.ensures

slots : (g : _) (c : After-slots g) (start : ℕ → Sample) (e : ℕ) (s : IsSummed c.args.plan.now start e (runs_of c.args.done.now)) → c.slots.result ≡ slots_of s.run.plan
slots g c start e s = c.slots.ensures.value ∙ ap slots_of (sym s.plan_is)

-- there are those of the last epoch
enough : (g : _) (c : After-slots g) → 64 * c.slots.result ≤ length c.records-records.result.now
enough g c =
    let start = c.requires.0 in
    let e = c.requires.1 in
    let s = c.requires.2 in
    let all = summary-enough c.level_run_is_serial.ensures s.run start c.index-banks-0.result.ended (has g c start e s) in
    omega (arith, all, ap length (records g c), slots g c start e s)

pub bounds-banks-0 : goal.bounds-banks-0
bounds-banks-0 g c =
    let one = ap length c.requires.2.one in
    let long = length-map c.args.done.now (λ (d : DoneView). d.run) in
    let same = ap length c.banks-banks.ensures.value in
    omega arith

pub overflow_sub-last : goal.overflow_sub-last
overflow_sub-last g c = omega (arith, enough g (goal.at.overflow_sub-last g c).After-slots)

pub put_summary-requires-clause-records : goal.put_summary-requires-clause-records
put_summary-requires-clause-records g c =
    let few = enough g (goal.at.put_summary-requires-clause-records g c).After-slots in
    ap length (last-taken c.records-records.result.now (64 * c.slots.result) few)
    ∙ length-drop (length c.records-records.result.now - 64 * c.slots.result) c.records-records.result.now ∙ omega (arith, few, c.slots.ensures.value)

pub returns-clause-written : goal.returns-clause-written
returns-clause-written g c = λ start e s.
    let at = (goal.at.returns-clause-written g c).After-slots in
    let d = c.index-banks-0.result in
    let own = has g at start e s in
    let until = ap (λ (o : Origin). o.window.until) (c.origin.ensures ∙ ap (λ (x : RaggedEndedView). x.origin) c.ended-ended.ensures) ∙ own.ends.origin.until_is in
    let text = summary-taken c.level_run_is_serial.ensures c.args.n s.run start d.ended own
    c.args.plan.now c.records-records.result.now c.slots.result c.stand.result.now c.origin.result.now.window.until
    (sym s.plan_is) (records g at) (slots g at start e s)
    (c.stand.ensures ∙ ap (λ (x : RaggedEndedView). x.stand) c.ended-ended.ensures) until in
    writes-same (text ∙ ap (summary c.args.n c.args.plan.now start) s.until) c.put_summary.ensures
