use Rattle.std.proofs.Common.{◌≡◌, List, ◌++◌, ap, ◌∙◌}
use Rattle.glass_edges.proofs.Writing.{fronts-none, fronts-more, fronts-stopped, fronts-same}
use Rattle.glass_engine.specs.BankRuns.{run_measured}
use Rattle.glass_engine.specs.Report.{sample_rows}
use Rattle.glass_engine.proofs.BankRows.{next-bank, next-within, next-record}
use Rattle.scalar_rule.specs.declared.sample.Record.{Record}
use Rattle.spin_model.proofs.Joined.{joined-zero, joined-more, joined-at}
use Rattle.glass_engine.proofs.rows.add_epoch.Goals as goal
use Rattle.glass_engine.proofs.rows.add_epoch.Goals.{After-sample_records-records}

pub samples-init : goal.samples-init
samples-init g c = fronts-none (joined-zero _ _)

pub bank_with-bank-requires : goal.bank_with-bank-requires
bank_with-bank-requires g c = next-bank c.args.rows.now.driven.now c.args.rows.now.orders c.args.rows.now.slots c.args.epoch c.args.passed c.requires.next c.samples.b c.samples-test.true

pub sample_records-records-requires-clause-within : goal.sample_records-records-requires-clause-within
sample_records-records-requires-clause-within g c =
    next-within c.args.rows.now.driven.now c.args.rows.now.orders c.args.rows.now.slots c.args.epoch c.args.passed c.requires.next c.samples.b c.samples-test.true c.requires.recorded c.bank_with-bank.result.now c.bank_with-bank.ensures

-- the sample's rows are those of its records
own : (g : _) (c : After-sample_records-records g) → c.samples.line ++ sample_rows c.args.epoch c.samples.b c.sample_records-records.result.now
    ≡ c.samples.line ++ sample_rows c.args.epoch c.samples.b (run_measured c.args.rows.now.driven.now c.samples.b c.args.epoch)
own g c = ap (λ (records : List Record). c.samples.line ++ sample_rows c.args.epoch c.samples.b records) (c.sample_records-records.ensures
    ∙ next-record c.args.rows.now.driven.now c.args.rows.now.orders c.args.rows.now.slots c.args.epoch c.args.passed c.requires.next c.samples.b c.samples-test.true c.requires.recorded c.bank_with-bank.result.now c.bank_with-bank.ensures)

pub samples-preserved : goal.samples-preserved
samples-preserved g c =
    let at = (goal.at.samples-preserved g c).After-sample_records-records in
    fronts-more _ _ _ c.samples.invariant (fronts-same (own g at) c.in_ok-add_sample.ensures) (joined-more _ _ c.samples.b)

pub returns-in_err-add_sample : goal.returns-in_err-add_sample
returns-in_err-add_sample g c =
    let at = (goal.at.returns-in_err-add_sample g c).After-sample_records-records in
    fronts-stopped _ _ _ _ c.from_residual.ensures.0 c.samples.invariant (fronts-same (own g at) c.in_err-add_sample.ensures) (joined-at _ _ c.samples.b _ c.samples-test.true)
