use Rattle.std.specs.Arc.{arc_value}
use Rattle.std.specs.Prelude.{All}
use Rattle.std.proofs.Common.{◌+◌, ◌<◌, List, ◌++◌, length, take, drop, sym, subst, ◌∙◌, arith}
use Rattle.scalar_rule.specs.Plan.{Plan}
use Rattle.scalar_rule.proofs.PlaneSweeps.{written_over}
use Rattle.plane_sweep.specs.declared.stand.PairWheels.{PairWheels}
use Rattle.measured_run.specs.Banks.{BankAt, start_of}
use Rattle.measured_run.specs.Cells.{CanSweep, RunsEpoch}
use Rattle.measured_run.specs.Keeps.{KeepsCells}
use Rattle.measured_run.specs.declared.cell.Cell.{Cell}
use Rattle.measured_run.proofs.Epochs.{start-epoch, can-sweep, keeps-next}
use Rattle.measured_run.proofs.bank.Bank.advance.Goals as goal

pub run_epoch-requires-clause-can : goal.run_epoch-requires-clause-can
run_epoch-requires-clause-can g c κs within =
    let b = c.self.inside in
    let plan = arc_value b.plan in
    let left = subst (λ (v : BankAt). v.epoch < v.bank.until) (sym c.self.view_is) c.requires.left in
    let can = can-sweep plan (start_of plan b.base.value) b.every b.until b.epoch b.cells b.pairs c.self.invariant.cells (omega (arith, start-epoch plan b.base.value 0, c.self.invariant.from)) left c.self.invariant.until in
    subst (λ (p : Plan). All (CanSweep p b.epoch) c.as_mut_slice.result.now) (sym c.deref.ensures)
    (subst (λ (cells : List Cell). All (CanSweep plan b.epoch) cells) (sym c.as_mut_slice.ensures.value) can)

pub invariant_of-self : goal.invariant_of-self
invariant_of-self g c =
    let b = c.self.inside in
    let plan = arc_value b.plan in
    let kept = c.self.invariant in
    let start = start_of plan b.base.value in
    let left = subst (λ (v : BankAt). v.epoch < v.bank.until) (sym c.self.view_is) c.requires.left in
    let runs =
    subst (λ (p : Plan). RunsEpoch p b.every b.epoch b.pairs c.run_epoch.new.pairs b.cells c.run_epoch.new.cells) c.deref.ensures
    (subst (λ (ps : List PairWheels). RunsEpoch c.deref.result.now b.every b.epoch ps c.run_epoch.new.pairs b.cells c.run_epoch.new.cells) c.as_mut_slice-2.ensures.value
    (subst (λ (cells : List Cell). RunsEpoch c.deref.result.now b.every b.epoch c.as_mut_slice-2.result.now c.run_epoch.new.pairs cells c.run_epoch.new.cells) c.as_mut_slice.ensures.value
    c.run_epoch.ensures)) in
    let next = keeps-next plan start b.every b.until b.epoch b.cells c.run_epoch.new.cells b.pairs c.run_epoch.new.pairs
    (λ i small. omega (arith, start-epoch plan b.base.value i, kept.from)) kept.cells runs in
    let same = written_over b.pairs c.run_epoch.new.pairs (next.pairs_count ∙ sym kept.cells.pairs_count) in
    let whole = written_over b.cells c.run_epoch.new.cells (next.count ∙ sym kept.cells.count) in
    record {
      fits = kept.fits;
      from = omega (arith, kept.from);
      to = omega (arith, left);
      until = kept.until;
      some_every = kept.some_every;
      cells = subst (λ (ps : List PairWheels). KeepsCells plan start b.every b.until (b.epoch + 1) (take (length b.cells) (c.run_epoch.new.cells ++ drop (length c.run_epoch.new.cells) b.cells)) ps) (sym same)
          (subst (λ (cells : List Cell). KeepsCells plan start b.every b.until (b.epoch + 1) cells c.run_epoch.new.pairs) (sym whole) next);
    }
