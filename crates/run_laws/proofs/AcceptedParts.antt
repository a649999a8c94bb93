-- A run that is no longer than one that is not refused for its amount is not refused either.
use Rattle.std.proofs.Common.{arith, ◌≡◌, ℕ, ◌*◌, ◌≤◌, Bool, true, false, cond, Some, None, refl, sym, ap, ◌∙◌}
use Rattle.std.proofs.lemmas.Bool.{ltb-false, le-ltb}
use Rattle.std.proofs.lemmas.Nat.{mul-le}
use Rattle.glass_edges.specs.Refusals.{or_else}
use Rattle.glass_edges.proofs.FirstRefusals.{or-none}
use Rattle.run_plan.specs.Amounts.{row_count, spins_refusal, rows_refusal, amount_refusal}
use Rattle.run_plan.specs.declared.refused.PlanRefused.{PlanRefused}
use Rattle.run_plan.specs.declared.refused.PlanRefused.TheVariants as refused
use Rattle.run_plan.specs.declared.run_file.Orders.{Orders}
use Rattle.scalar_rule.specs.Plan.{Plan, slots_of}
use Rattle.scalar_rule.specs.Records.{recorded_epochs}
use Rattle.scalar_rule.proofs.RecordedEpochs.{quotient-upto}
use Rattle.run_laws.specs.AmountLaws.{IsRefusedBeside}

-- no more epochs are recorded of a part
recorded-upto : (every from until start end : ℕ) → 1 ≤ every → from ≤ start → end ≤ until → recorded_epochs every start end ≤ recorded_epochs every from until
recorded-upto every from until start end some late soon =
    let first = quotient-upto every from start some late in
    let last = quotient-upto every end until some soon in
    omega arith

rows-upto : (plan : Plan) (orders : Orders) (from until start end : ℕ) → 1 ≤ orders.every → from ≤ start → end ≤ until → row_count plan orders start end ≤ row_count plan orders from until
rows-upto plan orders from until start end some late soon =
    mul-le (orders.samples * slots_of plan) (recorded_epochs orders.every start end) (orders.samples * slots_of plan) (recorded_epochs orders.every from until)
    (omega arith) (recorded-upto orders.every from until start end some late soon)

not-more : (more : Bool) (e : PlanRefused) → None ≡ cond more (Some e) None → more ≡ false
not-more true e none = absurd cc
not-more false e none = refl

pub parts-accepted : (plan : Plan) (orders : Orders) (from until start end : ℕ) → 1 ≤ orders.every → amount_refusal plan orders from until ≡ None → IsRefusedBeside plan orders from until start end
unfolding amount_refusal
parts-accepted plan orders from until start end some accepted =
    let none = or-none (spins_refusal plan orders) (rows_refusal plan orders from until) (sym accepted) in
    let rows : amount_refusal plan orders start end ≡ rows_refusal plan orders start end = ap (λ spins. or_else spins (rows_refusal plan orders start end)) (sym none.0) in
    let few = ltb-false 4194304 (row_count plan orders from until) (not-more _ (refused.Rows (row_count plan orders from until)) none.1) in
    record {
      rows_alone = rows;
      part = λ late soon.
          let upto = rows-upto plan orders from until start end some late soon in
          let within = le-ltb 4194304 (row_count plan orders start end) (omega arith) in
          rows ∙ ap (λ more. cond more (Some (refused.Rows (row_count plan orders start end))) None) within;
    }
