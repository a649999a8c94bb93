-- Tables that are read together with their bytes, and the plans that are made of them bank by bank.
use Rattle.std.specs.Prelude.{ℕ, List, Result, Ok, Err}
use Rattle.coupling_set.specs.BondsAsWords.{couplings_with, bank_of}
use Rattle.coupling_set.specs.CouplingWords.{CouplingsView}
use Rattle.coupling_set.specs.declared.refused.CouplingsRefused.{CouplingsRefused}
use Rattle.run_plan.specs.PlanOf.{plan_with}
use Rattle.run_plan.specs.RunFile.{AreLawfulOrders}
use Rattle.run_plan.specs.declared.run_file.RunFile.{RunFile}
use Rattle.scalar_rule.specs.Plan.{Plan}
use Rattle.spin_model.specs.Couplings.{Bonds}
use Rattle.threshold_table.specs.Tables.{RuleView}
use Rattle.glass_main.specs.ManyBanks.{bank_plans}
use Rattle.glass_main.specs.declared.gathering.ReadRules.{ReadRules}
use Rattle.glass_main.specs.declared.gathering.ReadSwaps.{ReadSwaps}
use Rattle.glass_main.specs.declared.ending.Ending.{Ending}
use Rattle.glass_main.specs.declared.plans.Plans.{Plans}
use Rattle.glass_main.specs.declared.plans.Plans.TheVariants.{One, Banks}

-- the table alone
abbrev pub rules_read : Result ReadRules Ending → Result RuleView Ending
rules_read (Ok read) = Ok read.rules
rules_read (Err ending) = Err ending

abbrev pub swaps_read : Result ReadSwaps Ending → Result (List (List ℕ)) Ending
swaps_read (Ok read) = Ok read.swaps
swaps_read (Err ending) = Err ending

-- a run file with another seed
abbrev pub file_with_seed : ℕ → RunFile → RunFile
file_with_seed seed file = record {
  lattice = file.lattice;
  kind = file.kind;
  rules = file.rules;
  swaps = file.swaps;
  couplings = file.couplings;
  sweeps = file.sweeps;
  seed = seed;
  orders = file.orders;
}

-- a bank's couplings, where J of each sample is given or refused
abbrev pub couplings_by : ℕ → ℕ → Result (ℕ → Bonds) CouplingsRefused → Result CouplingsView CouplingsRefused
couplings_by l g (Ok bonds) = Ok (couplings_with l (bank_of g bonds))
couplings_by l g (Err e) = Err e

-- its plan
abbrev pub plan_by : RunFile → RuleView → List (List ℕ) → ℕ → Result (ℕ → Bonds) CouplingsRefused → Result Plan CouplingsRefused
plan_by file rules swaps g (Ok bonds) = Ok (plan_with file rules swaps (couplings_with file.lattice (bank_of g bonds)))
plan_by file rules swaps g (Err e) = Err e

-- those of so many banks
abbrev pub plans_by : RunFile → RuleView → List (List ℕ) → ℕ → Result (ℕ → Bonds) CouplingsRefused → Result (List Plan) CouplingsRefused
plans_by file rules swaps banks (Ok bonds) = Ok (bank_plans (λ couplings. plan_with file rules swaps couplings) file.lattice banks bonds)
plans_by file rules swaps banks (Err e) = Err e

-- the orders of one bank are lawful
abbrev pub HasLawfulOrders : Plans → Type 0
HasLawfulOrders (One planned) = AreLawfulOrders planned.orders
HasLawfulOrders (Banks planned) = Unit {0}
