-- The plan that a run file, its two tables and its couplings make.
use Rattle.std.specs.Prelude.{ℕ, List}
use Rattle.coupling_set.specs.CouplingWords.{CouplingsView}
use Rattle.threshold_table.specs.Tables.{RuleView}
use Rattle.scalar_rule.specs.Plan.{Plan}
use Rattle.run_plan.specs.declared.run_file.RunFile.{RunFile}

-- the plan of a run file with these tables and couplings
abbrev pub plan_with : RunFile → RuleView → List (List ℕ) → CouplingsView → Plan
plan_with file rules swaps couplings = record {
  size = file.lattice;
  rules = rules;
  swaps = swaps;
  couplings = couplings;
  sweeps = file.sweeps;
  seed = file.seed;
}
