-- The plan of the program as that of the definitions, and what it keeps.
use Rattle.scalar_rule.specs.Plan.{Plan, IsLawfulPlan}
use Rattle.scalar_rule.specs.declared.plan.Plan.TheInside.{Inside}

-- the plan of the program, part by part
abbrev pub plan_of : Inside → Plan
plan_of plan = record {
  size = plan.lattice;
  rules = plan.rules;
  swaps = plan.swaps;
  couplings = plan.couplings;
  sweeps = plan.sweeps;
  seed = plan.seed;
}

-- it is lawful
abbrev pub KeepsPlan : Inside → Type 0
KeepsPlan plan = IsLawfulPlan (plan_of plan)
