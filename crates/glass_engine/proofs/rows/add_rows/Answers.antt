use Rattle.std.proofs.Common.{rules, arith, ◌+◌, ap, sym, subst}
use Rattle.glass_edges.proofs.Writing.{fronts-none, fronts-more, fronts-stopped}
use Rattle.glass_engine.specs.BankRuns.{run_measured}
use Rattle.glass_engine.specs.RecordPieces.{AreRowsFrom}
use Rattle.glass_engine.proofs.BankRows.{rows-next}
use Rattle.spin_model.proofs.Joined.{window-none, window-at}
use Rattle.glass_engine.proofs.Pieces.{rows_if, rows-more}
use Rattle.glass_engine.proofs.rows.add_rows.Goals as goal

pub epochs-init : goal.epochs-init
epochs-init g c = record {
  written = fronts-none (window-none _ c.args.from);
  rows = c.recorded_before-passed.ensures;
}

pub add_recorded-requires : goal.add_recorded-requires
add_recorded-requires g c = record {
  to = c.args.rows.now.to;
  below = omega (arith, c.epochs-test.true, c.requires.end);
  rows = c.epochs.invariant.rows;
}

pub returns-in_err-count : goal.returns-in_err-count
returns-in_err-count g c =
    fronts-stopped _ _ _ _ c.from_residual.ensures.0 c.epochs.invariant.written c.in_err-count.ensures.written
    (window-at (rows_if (run_measured c.args.rows.now.driven.now) c.args.rows.now.orders.samples c.args.rows.now.orders.every) c.args.from c.epochs.epoch c.args.to (search (rules, arith)) c.epochs-test.true)

pub epochs-preserved : goal.epochs-preserved
epochs-preserved g c =
    let next = rows-next c.args.rows.now.driven.now c.args.rows.now.orders c.args.rows.now.slots c.epochs.epoch c.args.rows.now.to c.epochs.passed (omega (arith, c.epochs-test.true, c.requires.end)) c.epochs.invariant.rows in
    let put = c.in_ok-count.ensures.written in
    record {
      written = fronts-more _ _ _ c.epochs.invariant.written (record { front = put.front; prefix = tt; cause = record { later = put.cause.later; failed = tt; passed = put.cause.passed } })
          (rows-more (run_measured c.args.rows.now.driven.now) c.args.rows.now.orders.samples c.args.rows.now.orders.every c.args.from c.epochs.epoch (search (rules, arith)));
      rows = subst (AreRowsFrom c.args.rows.now.driven.now c.args.rows.now.orders c.args.rows.now.slots (c.epochs.epoch + 1) c.args.rows.now.to) (ap (λ k. c.epochs.passed + k) (sym c.in_ok-count.ensures.count)) next;
    }
