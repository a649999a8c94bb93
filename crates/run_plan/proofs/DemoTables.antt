-- The tables of the run that is made from a number.
use Rattle.std.proofs.Common.{◌≡◌, ℕ, ◌+◌, ◌*◌, ◌/◌, ◌<◌, length, map, refl, arith, add-one}
use Rattle.std.proofs.lemmas.Nat.{mul-lt}
use Rattle.std.proofs.Math.Nat.{div-mul-le_self}
use Rattle.std.specs.Bool.{IsTrue}
use Rattle.std.specs.List.{list_all}
use Rattle.spin_model.specs.Steps.{table}
use Rattle.threshold_table.specs.Tables.{padded, thresholds_in, is_lawful_row, are_thresholds}
use Rattle.threshold_table.specs.declared.rule_table.RuleKind.TheVariants.{Metropolis}
use Rattle.threshold_table.specs.declared.rule_table.RuleRow.{RuleRow}
use Rattle.run_plan.specs.DemoPlan.{power, slot_thresholds, pair_entries, demo_rules, demo_swaps}

-- the seven values of a slot
abbrev pub slot_values : ℕ → RuleRow
slot_values slot = record { values = padded (slot_thresholds slot) }

pub rows-are_lawful : IsTrue (list_all (is_lawful_row Metropolis) (table slot_values 8))
unfolding table
rows-are_lawful = refl

pub rows-are_rules : map (thresholds_in Metropolis) (table slot_values 8) ≡ table slot_thresholds 8
unfolding table
rows-are_rules = refl

pub entries-are_lawful : IsTrue (list_all are_thresholds (table pair_entries 7))
unfolding table
entries-are_lawful = refl

pub tables-fit : length demo_swaps + 1 ≡ length demo_rules.rows
unfolding table
tables-fit = refl

pub power-more : (weight times : ℕ) → power weight (times + 1) ≡ power weight times * weight / 4294967296
power-more weight times = rw add-one refl

-- a product of two thresholds below that of probability 1 is below it
pub product-small : (a b : ℕ) → a < 4294967296 → b < 4294967296 → a * b / 4294967296 < 4294967296
product-small a b small less =
    let product = mul-lt a b 4294967296 4294967296 small less in
    let back = div-mul-le_self (a * b) 4294967296 in
    omega (arith, product, back)
