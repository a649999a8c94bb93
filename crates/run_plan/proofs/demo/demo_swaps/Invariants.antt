use Rattle.std.proofs.Common.{◌≡◌, take, length}
use Rattle.spin_model.specs.Steps.{table}
use Rattle.run_plan.specs.DemoPlan.{pair_entries}
use Rattle.run_plan.proofs.demo.demo_swaps.Given as goal

abbrev pub invariant-pairs : goal.invariant-pairs
invariant-pairs l = record {
  sized : length l.rows ≡ 7;
  made : take l.pair l.rows ≡ table pair_entries l.pair;
}
