-- The plans of two saved states: those of the second are those of the first with another seed.
use Rattle.std.proofs.Common.{◌≡◌, ℕ, zero, suc, ◌+◌, ◌*◌, ◌/◌, ◌≤◌, List, [], ◌∷◌, ◌++◌, map, length, get_or, Result, Ok, Err, refl, sym, ap, ◌∙◌, arith}
use Rattle.std.specs.Prelude.{IfErr}
use Rattle.std.proofs.lemmas.List.{map-append}
use Rattle.coupling_set.specs.BondsAsWords.{couplings_with, bank_of}
use Rattle.coupling_set.specs.CouplingsFile.{couplings_in}
use Rattle.coupling_set.specs.declared.refused.CouplingsRefused.{CouplingsRefused}
use Rattle.coupling_set.specs.declared.refused.CouplingsRefused.TheVariants as couplings
use Rattle.glass_edges.specs.Refusals.{Gives}
use Rattle.run_checkpoint.specs.BankEncoding.{HaveShape}
use Rattle.run_plan.specs.PlanOf.{plan_with}
use Rattle.run_plan.specs.RunFile.{AreOrdersOfBanks}
use Rattle.run_plan.specs.declared.run_file.RunFile.{RunFile}
use Rattle.scalar_rule.specs.Plan.{Plan}
use Rattle.spin_model.specs.Couplings.{Bonds}
use Rattle.spin_model.specs.Steps.{table}
use Rattle.threshold_table.specs.Tables.{RuleView}
use Rattle.glass_main.specs.BankTables.{file_with_seed, plans_by}
use Rattle.glass_main.specs.CrossRun.{with_seed, seeded}
use Rattle.glass_main.specs.CrossedPlans.{first_of, AreFew}
use Rattle.glass_main.specs.ManyBanks.{PlannedBanks, bank_count, bank_plans}
use Rattle.glass_main.specs.Request.{banks_by}
use Rattle.glass_main.specs.declared.crossed_plans.SeededPlans.{SeededPlans}
use Rattle.glass_main.proofs.BankPlans.{all-shape, none-by}

seeded-table : (seed : ℕ) (make : ℕ → Plan) (n : ℕ) → seeded seed (table make n) ≡ table (λ g. with_seed seed (make g)) n
unfolding table
seeded-table seed make zero = refl
seeded-table seed make (suc n) =
    map-append (with_seed seed) (table make n) (make n ∷ []) ∙ ap (λ (ps : List Plan). ps ++ with_seed seed (make n) ∷ []) (seeded-table seed make n)

same-plans : (a b : List Plan) → ◌≡◌ {A = Result (List Plan) CouplingsRefused} (Ok a) (Ok b) → a ≡ b
same-plans a b e = cc

-- of the same couplings
pub seeded-by : (file : RunFile) (rules : RuleView) (swaps : List (List ℕ)) (seed n : ℕ) (given : Result (ℕ → Bonds) CouplingsRefused) (first second : List Plan)
    → plans_by file rules swaps n given ≡ Ok first → plans_by (file_with_seed seed file) rules swaps n given ≡ Ok second → second ≡ seeded seed first
unfolding bank_plans
seeded-by file rules swaps seed n (Ok bonds) first second one two =
    let make : ℕ → Plan = λ g. plan_with file rules swaps (couplings_with file.lattice (bank_of g bonds)) in
    sym (same-plans _ second two) ∙ sym (seeded-table seed make n) ∙ ap (seeded seed) (same-plans (table make n) first one)
seeded-by file rules swaps seed n (Err e) first second one two = absurd cc

-- couplings that are refused, also where the plans have another seed
pub seeded-refused : (file : RunFile) (rules : RuleView) (swaps : List (List ℕ)) (seed n : ℕ) (given : Result (ℕ → Bonds) CouplingsRefused) (e : CouplingsRefused)
    → plans_by (file_with_seed seed file) rules swaps n given ≡ Err e → (given ≡ Err e) × (banks_by file rules swaps given ≡ Err e)
seeded-refused file rules swaps seed n given e is =
    let due = (none-by (file_with_seed seed file) rules swaps given n e is).0 in
    (due, ap (banks_by file rules swaps) due)

-- they are those of 1 to 4 banks
pub few-plans : (file : RunFile) (rules : RuleView) (swaps : List (List ℕ)) (given : Result (ℕ → Bonds) CouplingsRefused) (plans : List Plan) → AreOrdersOfBanks file.orders
    → plans_by file rules swaps (bank_count file.orders.samples) given ≡ Ok plans → AreFew (record { plans = plans; orders = file.orders })
few-plans file rules swaps given plans orders is =
    let shape = all-shape file rules swaps given (bank_count file.orders.samples) plans is in
    let long : length plans ≡ (file.orders.samples + 63) / 64 = shape.1 in
    record {
      some = omega (arith, long, orders.some_samples);
      few = omega (arith, long, orders.few_samples);
      samples = omega (arith, long);
      shape = record { size = file.lattice; slots = length rules.rows; shape = shape.0 };
    }

-- ---- answers

pub plans-refused : (result : Result SeededPlans CouplingsRefused) (e own : CouplingsRefused) (read : Result PlannedBanks CouplingsRefused) → result ≡ Err e → e ≡ own
    → (¬ (own ≡ couplings.NoMemory) → read ≡ Err own) → Gives couplings.NoMemory first_of result read
plans-refused result e own read is same told = rw (is, same) told

pub cause-told : (l : ℕ) (bytes : List ℕ) (result : Result SeededPlans CouplingsRefused) (e own : CouplingsRefused) → result ≡ Err e → e ≡ own
    → (¬ (own ≡ couplings.NoMemory) → couplings_in l 0 bytes ≡ Err own) → IfErr result (λ due. ¬ (due ≡ couplings.NoMemory) → couplings_in l 0 bytes ≡ Err due)
cause-told l bytes result e own is same told = rw (is, same) told
