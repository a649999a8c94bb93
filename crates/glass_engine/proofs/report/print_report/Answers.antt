-- The three texts of the report, and where each fails.
use Rattle.std.proofs.Common.{refl, ap, sym, ◌∙◌}
use Rattle.glass_edges.proofs.Writing.{writes-first, writes-more, writes-stopped}
use Rattle.glass_engine.specs.BankRuns.{run_report}
use Rattle.glass_engine.proofs.report.print_report.Goals as goal

pub returns-in_err-header : goal.returns-in_err-header
returns-in_err-header g c = writes-first _ _ c.from_residual.ensures.0 c.in_err-header.ensures (ap run_report (sym c.banks.ensures.value) ∙ c.rows_of-rows.ensures.text)

pub returns-in_err-put_rows_by : goal.returns-in_err-put_rows_by
returns-in_err-put_rows_by g c =
    writes-stopped _ c.from_residual-in_err-put_rows_by.ensures.0 c.in_ok-header.ensures c.in_err-put_rows_by.ensures (ap run_report (sym c.banks.ensures.value) ∙ c.rows_of-rows.ensures.text)

pub returns : goal.returns
returns g c = writes-more (writes-more c.in_ok-header.ensures c.in_ok-put_rows_by.ensures refl) c.put_tail.ensures (ap run_report (sym c.banks.ensures.value) ∙ c.rows_of-rows.ensures.text)
