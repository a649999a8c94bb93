use Rattle.std.proofs.Common.{◌≡◌, ◌∙◌, refl, sym, ap, subst, map, IfOk, arith}
use Rattle.std.specs.Bool.{IsTrue}
use Rattle.std.specs.List.{list_all}
use Rattle.std.proofs.lemmas.List.{take_more_set, take_all, length-set}
use Rattle.spin_model.specs.Steps.{table}
use Rattle.spin_model.proofs.Tables.{table-zero, table-more}
use Rattle.threshold_table.specs.Tables.{is_lawful_row, thresholds_in}
use Rattle.threshold_table.specs.declared.rule_table.RuleKind.TheVariants.{Metropolis}
use Rattle.run_plan.proofs.DemoTables.{slot_values, rows-are_lawful, rows-are_rules}
use Rattle.run_plan.proofs.demo.demo_rules.Goals as goal

pub slots-init : goal.slots-init
slots-init c = record { sized = refl; made = sym (table-zero _) }

pub slots-preserved : goal.slots-preserved
slots-preserved c =
    let more = table-more slot_values c.slots.slot in
    record {
      sized = simp length-set c.slots.invariant.sized;
      made = take_more_set c.slots.rows c.slots.slot _ (omega (arith, c.slots.invariant.sized)) ∙ rw (c.slots.invariant.made, more, c.slot_row.ensures) refl;
    }

pub from_rows-requires-clause-lawful : goal.from_rows-requires-clause-lawful
from_rows-requires-clause-lawful c =
    let last : c.slots.slot ≡ 8 = omega arith in
    let rows : c.slots.rows ≡ table slot_values 8 = sym (take_all 8 c.slots.rows (omega (arith, c.slots.invariant.sized))) ∙ rw last at c.slots.invariant.made in
    subst (λ rows. IsTrue (list_all (is_lawful_row Metropolis) rows)) (sym rows) rows-are_lawful

pub returns-clause-value : goal.returns-clause-value
returns-clause-value c =
    let last : c.slots.slot ≡ 8 = omega arith in
    let rows : c.slots.rows ≡ table slot_values 8 = sym (take_all 8 c.slots.rows (omega (arith, c.slots.invariant.sized))) ∙ rw last at c.slots.invariant.made in
    let rules = ap (map (thresholds_in Metropolis)) rows ∙ rows-are_rules in
    subst (λ rows. IfOk c.from_rows.result (λ t. t ≡ record { kind = Metropolis; rows = rows })) rules c.from_rows.ensures
