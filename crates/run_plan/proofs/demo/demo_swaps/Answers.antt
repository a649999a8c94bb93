use Rattle.std.proofs.Common.{◌≡◌, ◌∙◌, rules, refl, sym, subst, IfOk, arith}
use Rattle.std.specs.Bool.{IsTrue}
use Rattle.std.specs.List.{list_all}
use Rattle.std.proofs.lemmas.List.{take_more_set, take_all, length-set}
use Rattle.spin_model.specs.Steps.{table}
use Rattle.spin_model.proofs.Tables.{table-zero, table-more}
use Rattle.threshold_table.specs.Tables.{are_thresholds}
use Rattle.run_plan.specs.DemoPlan.{pair_entries}
use Rattle.run_plan.proofs.DemoTables.{entries-are_lawful}
use Rattle.run_plan.proofs.demo.demo_swaps.Goals as goal

pub pairs-init : goal.pairs-init
pairs-init c = record { sized = refl; made = sym (table-zero _) }

pub pairs-preserved : goal.pairs-preserved
pairs-preserved c =
    let more = table-more pair_entries c.pairs.pair in
    record {
      sized = simp length-set c.pairs.invariant.sized;
      made = take_more_set c.pairs.rows c.pairs.pair _ (omega (arith, c.pairs.invariant.sized)) ∙ rw (c.pairs.invariant.made, more, c.pair_entries.ensures) refl;
    }

pub from_rows-requires : goal.from_rows-requires
from_rows-requires c =
    let last : c.pairs.pair ≡ 7 = omega arith in
    let rows : c.pairs.rows ≡ table pair_entries 7 = sym (take_all 7 c.pairs.rows (omega (arith, c.pairs.invariant.sized))) ∙ rw last at c.pairs.invariant.made in
    let lawful : IsTrue (list_all are_thresholds c.pairs.rows) = subst (λ rows. IsTrue (list_all are_thresholds rows)) (sym rows) entries-are_lawful in
    (search rules, (omega (arith, c.pairs.invariant.sized), (search rules, (search rules, lawful))))

pub returns-clause-value : goal.returns-clause-value
returns-clause-value c =
    let last : c.pairs.pair ≡ 7 = omega arith in
    let rows : c.pairs.rows ≡ table pair_entries 7 = sym (take_all 7 c.pairs.rows (omega (arith, c.pairs.invariant.sized))) ∙ rw last at c.pairs.invariant.made in
    subst (λ rows. IfOk c.from_rows.result (λ t. t ≡ rows)) rows c.from_rows.ensures
