use Rattle.std.proofs.Common.{refl}
use Rattle.glass_edges.proofs.Writing.{writes-first, writes-more, writes-stopped}
use Rattle.glass_engine.proofs.Summaries.{summary-parts}
use Rattle.glass_engine.proofs.summary.put_summary.Goals as goal

pub returns-in_err-summary_header : goal.returns-in_err-summary_header
returns-in_err-summary_header g c =
    writes-first _ _ c.from_residual.ensures.0 c.in_err-summary_header.ensures (summary-parts c.args.n c.args.plan.now _ _ c.args.until)

pub returns-in_err-put_slots : goal.returns-in_err-put_slots
returns-in_err-put_slots g c =
    writes-stopped _ c.from_residual-in_err-put_slots.ensures.0 c.in_ok-summary_header.ensures c.in_err-put_slots.ensures (summary-parts c.args.n c.args.plan.now _ _ c.args.until)

pub returns : goal.returns
returns g c =
    writes-more (writes-more c.in_ok-summary_header.ensures c.in_ok-put_slots.ensures refl) c.end.ensures (summary-parts c.args.n c.args.plan.now _ _ c.args.until)
