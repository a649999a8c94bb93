use Rattle.std.proofs.Common.{◌≡◌, ◌<◌, take, length}
use Rattle.spin_model.specs.Steps.{table}
use Rattle.run_plan.specs.DemoPlan.{power}
use Rattle.run_plan.proofs.demo.powers.Given as goal

abbrev pub invariant-powers : goal.invariant-powers
invariant-powers g l = record {
  sized : length l.found ≡ g.row.N;
  next : l.power ≡ power l.weight l.times;
  small : l.power < 4294967296;
  made : take l.times l.found ≡ table (power l.weight) l.times;
}
