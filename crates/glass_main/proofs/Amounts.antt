-- A run that is refused for its amount.
use Rattle.std.proofs.Common.{◌≡◌, ℕ, ◌<◌, Bool, true, false, Option, Some, None, IfSome, Result, Err, refl, ap, subst, arith}
use Rattle.std.specs.Prelude.{◌&&◌, nat_lt, if◌then◌else◌}
use Rattle.std.proofs.lemmas.Bool.Decides.{nat_tests}
use Rattle.glass_edges.specs.Refusals.{or_else, unless}
use Rattle.run_plan.specs.Amounts.{most_spins, spin_bits, row_count, spins_refusal, rows_refusal, amount_refusal}
use Rattle.run_plan.specs.declared.refused.PlanRefused.{PlanRefused}
use Rattle.run_plan.specs.declared.refused.PlanRefused.TheVariants.{Rows, Spins}
use Rattle.run_plan.specs.declared.run_file.Orders.{Orders}
use Rattle.scalar_rule.specs.Plan as model
use Rattle.glass_main.specs.declared.refusal.Refusal.TheVariants.{Plan}
use Rattle.glass_main.specs.Endings.{IsOfAmount}
use Rattle.glass_main.specs.Request.{told_as}
use Rattle.glass_main.specs.Statuses.{IsRefusedBy}

pub refused-amount : {A : Type 0} (found : Option PlanRefused) (work : A) (tested : Result (Unit {0}) PlanRefused) (e : PlanRefused) → tested ≡ Err e → tested ≡ unless found tt
    → IsRefusedBy (told_as Plan (unless found work)) (Plan e)
refused-amount None work tested e is told = absurd cc
refused-amount (Some due) work tested e is told = let same : e ≡ due = cc in ap Plan same

-- ---- the amount that is told is past its limit

tested-past : (test : Bool) (e : PlanRefused) → (test ≡ true → IsOfAmount (Plan e)) → IfSome (if test then Some e else None) (λ d. IsOfAmount (Plan d))
tested-past true e past = past refl
tested-past false e past = tt

either-past : (first later : Option PlanRefused) → IfSome first (λ d. IsOfAmount (Plan d)) → IfSome later (λ d. IsOfAmount (Plan d)) → IfSome (or_else first later) (λ d. IsOfAmount (Plan d))
either-past None later p q = q
either-past (Some e) later p q = p

bits-past : (ordered : Bool) (bits : ℕ) → (ordered && nat_lt most_spins bits) ≡ true → most_spins < bits
bits-past ordered bits test = grind (arith, nat_tests)

count-past : (count : ℕ) → nat_lt 4194304 count ≡ true → 4194304 < count
count-past count test = grind (arith, nat_tests)

amount-past : (plan : model.Plan) (orders : Orders) (from until : ℕ) → IfSome (amount_refusal plan orders from until) (λ d. IsOfAmount (Plan d))
unfolding amount_refusal
amount-past plan orders from until =
    either-past (spins_refusal plan orders) (rows_refusal plan orders from until)
    (tested-past (orders.spins && nat_lt most_spins (spin_bits plan orders)) (Spins (spin_bits plan orders)) (bits-past orders.spins (spin_bits plan orders)))
    (tested-past (nat_lt 4194304 (row_count plan orders from until)) (Rows (row_count plan orders from until)) (count-past (row_count plan orders from until)))

refused-past : (found : Option PlanRefused) (tested : Result (Unit {0}) PlanRefused) (e : PlanRefused) → IfSome found (λ d. IsOfAmount (Plan d)) → tested ≡ Err e → tested ≡ unless found tt → IsOfAmount (Plan e)
refused-past None tested e past is told = absurd cc
refused-past (Some due) tested e past is told = let same : due ≡ e = cc in subst (λ d. IsOfAmount (Plan d)) same past

pub amount-told : (plan : model.Plan) (orders : Orders) (from until : ℕ) (tested : Result (Unit {0}) PlanRefused) (e : PlanRefused) → tested ≡ Err e
    → tested ≡ unless (amount_refusal plan orders from until) tt → IsOfAmount (Plan e)
amount-told plan orders from until tested e is told =
    refused-past (amount_refusal plan orders from until) tested e (amount-past plan orders from until) is told
