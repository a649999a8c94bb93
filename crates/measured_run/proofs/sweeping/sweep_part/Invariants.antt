use Rattle.std.proofs.Common.{◌≡◌, ℕ, ◌+◌, ◌<◌, ◌≤◌, length, get_or}
use Rattle.measured_run.specs.Cells.{IsSweptCell}
use Rattle.measured_run.specs.declared.cell.Cell.{Cell}
use Rattle.measured_run.proofs.sweeping.sweep_part.Given as goal

abbrev pub invariant-slots : goal.invariant-slots
invariant-slots g l = record {
  sized : length l.cells ≡ length l.fn.cells;
  done : (j : ℕ) (d : Cell) → j < l.t → IsSweptCell l.step.plan.now l.step.every l.step.epoch (l.first + j) (get_or l.fn.cells j d) (get_or l.cells j d);
  rest : (j : ℕ) (d : Cell) → l.t ≤ j → get_or l.cells j d ≡ get_or l.fn.cells j d;
}
