-- The places so far that have a record are counted.
use Rattle.std.proofs.Common.{◌+◌, sym, ◌∙◌, ap, map, arith}
use Rattle.plane_sweep.specs.Uneven.{position_of}
use Rattle.spin_model.specs.Steps.{count_below}
use Rattle.spin_model.specs.Words.{one_if}
use Rattle.spin_model.proofs.Tables.{count_below-zero, count_below-more}
use Rattle.scalar_rule.specs.Positions.{done, position_in, is_pending}
use Rattle.run_checkpoint.specs.UnevenDecoding.{places_in}
use Rattle.run_checkpoint.proofs.UnevenPlaces.{shallow, few-cells, all-cells}
use Rattle.run_checkpoint.proofs.uneven_checks.pending_count.Goals as goal

pub overflow_sub-epochs : goal.overflow_sub-epochs
overflow_sub-epochs c = omega (arith, c.least_done-floor.ensures, c.greatest_done.ensures, (shallow c.args.slots c.args.bytes.now c.requires.right c.requires.some).0)

pub overflow_mul-cell-end : goal.overflow_mul-cell-end
overflow_mul-cell-end c = rw (c.greatest_done.ensures, c.least_done-floor.ensures) (omega (arith, (few-cells c.args.slots c.args.bytes.now c.requires.right c.requires.some c.requires.slots c.args.samples c.requires.few_samples).0))

pub overflow_mul-cell-end-2 : goal.overflow_mul-cell-end-2
overflow_mul-cell-end-2 c = rw (c.greatest_done.ensures, c.least_done-floor.ensures) (omega (arith, (few-cells c.args.slots c.args.bytes.now c.requires.right c.requires.some c.requires.slots c.args.samples c.requires.few_samples).1))

pub cells-init : goal.cells-init
cells-init c = record { counted = sym (count_below-zero _); few = omega arith }

pub is_pending-requires-clause-floor : goal.is_pending-requires-clause-floor
is_pending-requires-clause-floor c = omega (arith, c.least_done-floor.ensures, (shallow c.args.slots c.args.bytes.now c.requires.right c.requires.some).1)

pub is_pending-requires-clause-cell : goal.is_pending-requires-clause-cell
is_pending-requires-clause-cell c =
    let few = (few-cells c.args.slots c.args.bytes.now c.requires.right c.requires.some c.requires.slots c.args.samples c.requires.few_samples).1 in
    let test = rw (c.greatest_done.ensures, c.least_done-floor.ensures) at c.cells-test.true in
    omega (arith, few, test)

pub cells-preserved : goal.cells-preserved
cells-preserved c =
    let test = is_pending (λ t. done (position_in (map position_of (places_in c.args.slots c.args.bytes.now)) t)) c.least_done-floor.result c.args.samples c.args.every c.args.slots in
    record {
      counted =
          ap (λ x. x + c.one_if-count.result) c.cells.invariant.counted
          ∙ ap (λ x. count_below test c.cells.cell + x) (c.one_if-count.ensures.value ∙ ap one_if c.is_pending.ensures)
          ∙ sym (count_below-more test c.cells.cell);
      few = omega (arith, c.cells.invariant.few, c.one_if-count.ensures.bound);
    }

pub returns : goal.returns
returns c =
    all-cells c.args.slots c.args.bytes.now c.args.samples c.args.every c.least_done-floor.result c.greatest_done.result c.cells.cell c.cells.count
    c.least_done-floor.ensures c.greatest_done.ensures (search arith) c.cells.invariant.counted
