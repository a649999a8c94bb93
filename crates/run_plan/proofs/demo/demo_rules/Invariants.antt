use Rattle.std.proofs.Common.{◌≡◌, take, length}
use Rattle.spin_model.specs.Steps.{table}
use Rattle.run_plan.proofs.DemoTables.{slot_values}
use Rattle.run_plan.proofs.demo.demo_rules.Given as goal

abbrev pub invariant-slots : goal.invariant-slots
invariant-slots l = record {
  sized : length l.rows ≡ 8;
  made : take l.slot l.rows ≡ table slot_values l.slot;
}
