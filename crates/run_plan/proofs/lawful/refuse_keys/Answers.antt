-- The keys before this one pass, and so the first refusal is that of those that are left.
use Rattle.std.proofs.Common.{ℕ, ◌<◌, Option, sym, ap, ◌∙◌, arith, length}
use Rattle.std.proofs.lemmas.List.{drop_more, drop_all}
use Rattle.toml.specs.View.{table_view}
use Rattle.glass_edges.specs.Refusals.{first_found}
use Rattle.glass_edges.proofs.FirstRefusals.{goes-on, ends, nothing}
use Rattle.run_plan.specs.declared.key.Key.{Key}
use Rattle.run_plan.specs.declared.refused.PlanRefused.{PlanRefused}
use Rattle.run_plan.specs.RunFile.{key_refusal}
use Rattle.run_plan.proofs.lawful.refuse_keys.Goals as goal

pub returns-in-Some : goal.returns-in-Some
returns-in-Some c =
    let test : ℕ → Key → Option PlanRefused = λ _ key. key_refusal (table_view c.args.table.now) key in
    let within : c.keys.key-index < length c.keys-all.result = omega (arith, c.keys-test.true, ap length c.keys-all.ensures) in
    ends test c.keys.key-index _ _ _ _ _ (drop_more c.keys-all.result c.keys.key-index _ within) (sym c.in-Some.is ∙ c.refuse_key.ensures) c.keys.invariant
    ∙ ap (first_found test 0) c.keys-all.ensures

pub keys-preserved : goal.keys-preserved
keys-preserved c =
    let test : ℕ → Key → Option PlanRefused = λ _ key. key_refusal (table_view c.args.table.now) key in
    let within : c.keys.key-index < length c.keys-all.result = omega (arith, c.keys-test.true, ap length c.keys-all.ensures) in
    goes-on test c.keys.key-index _ _ _ _ (drop_more c.keys-all.result c.keys.key-index _ within) (sym c.in_default.is ∙ c.refuse_key.ensures) c.keys.invariant

pub returns : goal.returns
returns c =
    let test : ℕ → Key → Option PlanRefused = λ _ key. key_refusal (table_view c.args.table.now) key in
    nothing test c.keys.key-index _ _ (drop_all c.keys.key-index c.keys-all.result (omega (arith, c.keys-test.false, ap length c.keys-all.ensures))) c.keys.invariant
    ∙ ap (first_found test 0) c.keys-all.ensures
