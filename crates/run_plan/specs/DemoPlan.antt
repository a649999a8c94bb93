-- The plan of a large run that is made from a number alone: the lattice of side 16 by Metropolis at eight temperatures, with
-- random couplings and the number as seed.
use Rattle.std.specs.Prelude.{ℕ, zero, suc, ◌+◌, ◌*◌, ◌/◌, List, false}
use Rattle.coupling_set.specs.BondsAsWords.{couplings_with}
use Rattle.spin_model.specs.Couplings.{random}
use Rattle.spin_model.specs.Limits.{certain}
use Rattle.spin_model.specs.Steps.{table}
use Rattle.threshold_table.specs.Tables.{RuleView}
use Rattle.threshold_table.specs.declared.rule_table.RuleKind.TheVariants.{Metropolis}
use Rattle.scalar_rule.specs.Plan.{Plan}
use Rattle.scalar_rule.specs.declared.sample.Start.TheVariants.{Random}
use Rattle.run_plan.specs.declared.run_file.Orders.{Orders}

-- the threshold that two more unsatisfied bonds are accepted with in a slot: exp (-4 beta) is near (slot + 2) / (slot + 10)
abbrev pub slot_weight : ℕ → ℕ
slot_weight slot = certain * (slot + 2) / (slot + 10)

-- a threshold times itself so many times more, each product rounded down
abbrev pub power : ℕ → ℕ → ℕ
power weight zero = weight
power weight (suc times) = power weight times * weight / certain

-- the thresholds of a slot for 4, 5 and 6 satisfied bonds
abbrev pub slot_thresholds : ℕ → List ℕ
slot_thresholds slot = table (power (slot_weight slot)) 3

-- the threshold of the least gap of a pair, of the slots `pair` and `pair + 1`
abbrev pub pair_weight : ℕ → ℕ
pair_weight pair = certain * (pair + 2) * (pair + 11) / ((pair + 10) * (pair + 3))

-- the thresholds of a pair's gaps
abbrev pub pair_entries : ℕ → List ℕ
pair_entries pair = table (power (pair_weight pair)) 64

abbrev pub demo_rules : RuleView
demo_rules = record { kind = Metropolis; rows = table slot_thresholds 8 }

abbrev pub demo_swaps : List (List ℕ)
demo_swaps = table pair_entries 7

-- the plan of a number
abbrev pub demo_plan : ℕ → Plan
demo_plan n = record {
  size = 16;
  rules = demo_rules;
  swaps = demo_swaps;
  couplings = couplings_with 16 (random n);
  sweeps = 4;
  seed = n;
}

-- sixteen epochs from random spins, each fourth one recorded
abbrev pub demo_orders : Orders
demo_orders = record { samples = 64; epochs = 16; every = 4; start = Random; spins = false }
