-- The plans of several banks, one after the other.
use Rattle.std.proofs.Common.{arith, ◌≡◌, ℕ, zero, suc, ◌+◌, ◌≤◌, List, [], ◌∷◌, ◌++◌, length, Option, Some, None, Result, Ok, Err, refl, sym, ap, ap₂, ◌∙◌, subst}
use Rattle.coupling_set.specs.BondsAsWords.{couplings_with, bank_of}
use Rattle.coupling_set.specs.CouplingsFile.{file_refusal, of_file, couplings_in}
use Rattle.coupling_set.specs.declared.refused.CouplingsRefused.{CouplingsRefused}
use Rattle.glass_edges.specs.Refusals.{unless, Gives, GivesAfterTests}
use Rattle.run_checkpoint.specs.BankEncoding.{HaveShape}
use Rattle.run_plan.specs.PlanOf.{plan_with}
use Rattle.run_plan.specs.declared.run_file.CouplingSource.{CouplingSource}
use Rattle.run_plan.specs.declared.run_file.CouplingSource.TheVariants as sources
use Rattle.run_plan.specs.declared.run_file.RunFile.{RunFile}
use Rattle.scalar_rule.specs.Plan.{Plan, slots_of}
use Rattle.spin_model.specs.Couplings.{Bonds}
use Rattle.spin_model.specs.Steps.{table}
use Rattle.spin_model.proofs.Tables.{table-zero, table-more, length-table}
use Rattle.threshold_table.specs.Tables.{RuleView}
use Rattle.glass_main.specs.BankTables.{couplings_by, plan_by, plans_by}
use Rattle.glass_main.specs.ManyBanks.{bank_count, bank_plans}
use Rattle.glass_main.specs.Request.{bonds_in, banks_by}

-- couplings that are refused are so as those of bank 0
pub bonds-refused : (source : CouplingSource) (l seed : ℕ) (bytes : List ℕ) (e : CouplingsRefused) → bonds_in source l seed bytes ≡ Err e → couplings_in l 0 bytes ≡ Err e
unfolding bonds_in couplings_in
bonds-refused sources.Plus l seed bytes e is = absurd cc
bonds-refused sources.Random l seed bytes e is = absurd cc
bonds-refused (sources.File name) l seed bytes e is = refused-too (file_refusal l bytes) is
  where
    refused-too : (found : Option CouplingsRefused) → unless found (of_file l bytes) ≡ Err e → unless found (couplings_with l (bank_of 0 (of_file l bytes))) ≡ Err e
    refused-too None h = absurd cc
    refused-too (Some due) h = let same : due ≡ e = cc in ap Err same

-- ---- one after the other

module _ (file : RunFile) (rules : RuleView) (swaps : List (List ℕ)) where
  -- the plans of the first banks; none where J is refused
  abbrev pub AreFirst : Result (ℕ → Bonds) CouplingsRefused → ℕ → List Plan → Type 0
  AreFirst (Ok bonds) g plans = plans ≡ bank_plans (λ couplings. plan_with file rules swaps couplings) file.lattice g bonds
  AreFirst (Err e) g plans = g ≡ 0

  pub first-none : (given : Result (ℕ → Bonds) CouplingsRefused) → AreFirst given 0 []
  unfolding bank_plans
  first-none (Ok bonds) = sym (table-zero _)
  first-none (Err e) = refl

  pub first-more : (given : Result (ℕ → Bonds) CouplingsRefused) (g : ℕ) (plans : List Plan) (plan : Plan) → AreFirst given g plans → plan_by file rules swaps g given ≡ Ok plan
      → AreFirst given (g + 1) (plans ++ plan ∷ [])
  unfolding bank_plans
  first-more (Ok bonds) g plans plan are is =
      let own : plan ≡ plan_with file rules swaps (couplings_with file.lattice (bank_of g bonds)) = same-ok _ _ is in
      ap₂ (λ (ps : List Plan) (p : Plan). ps ++ p ∷ []) are own ∙ sym (table-more _ g)
    where
      same-ok : (a b : Plan) → ◌≡◌ {A = Result Plan CouplingsRefused} (Ok a) (Ok b) → b ≡ a
      same-ok a b e = cc
  first-more (Err e) g plans plan are is = absurd cc

  pub first-all : (given : Result (ℕ → Bonds) CouplingsRefused) (n : ℕ) (plans : List Plan) → 1 ≤ n → AreFirst given n plans → plans_by file rules swaps n given ≡ Ok plans
  first-all (Ok bonds) n plans some are = ap Ok (sym are)
  first-all (Err e) n plans some are = absurd (omega arith)

  pub first-refused : (given : Result (ℕ → Bonds) CouplingsRefused) (g n : ℕ) (e : CouplingsRefused) → plan_by file rules swaps g given ≡ Err e → plans_by file rules swaps n given ≡ Err e
  first-refused (Ok bonds) g n e is = absurd cc
  first-refused (Err due) g n e is = let same : due ≡ e = cc in ap Err same

  -- ---- all of them

  pub all-by : (given : Result (ℕ → Bonds) CouplingsRefused) (plans : List Plan) → plans_by file rules swaps (bank_count file.orders.samples) given ≡ Ok plans
      → banks_by file rules swaps given ≡ Ok (record { plans = plans; orders = file.orders })
  all-by (Ok bonds) plans is =
      let same = same-ok _ _ is in ap (λ (ps : List Plan). Ok (record { plans = ps; orders = file.orders })) same
    where
      same-ok : (a b : List Plan) → ◌≡◌ {A = Result (List Plan) CouplingsRefused} (Ok a) (Ok b) → a ≡ b
      same-ok a b e = cc
  all-by (Err e) plans is = absurd cc

  pub none-by : (given : Result (ℕ → Bonds) CouplingsRefused) (n : ℕ) (e : CouplingsRefused) → plans_by file rules swaps n given ≡ Err e → (given ≡ Err e) × (banks_by file rules swaps given ≡ Err e)
  none-by (Ok bonds) n e is = absurd cc
  none-by (Err due) n e is = let same : due ≡ e = cc in (ap Err same, ap Err same)

  shape-push : (l n : ℕ) (plans : List Plan) (plan : Plan) → HaveShape l n plans → plan.size ≡ l → slots_of plan ≡ n → HaveShape l n (plans ++ plan ∷ [])
  unfolding HaveShape
  shape-push l n [] plan shape size slots = (size, slots, tt)
  shape-push l n (p ∷ ps) plan shape size slots = (shape.0, shape.1, shape-push l n ps plan shape.2 size slots)

  shape-table : (bonds : ℕ → Bonds) (n : ℕ) → HaveShape file.lattice (length rules.rows) (table (λ g. plan_with file rules swaps (couplings_with file.lattice (bank_of g bonds))) n)
  unfolding table HaveShape
  shape-table bonds zero = tt
  shape-table bonds (suc n) = shape-push file.lattice (length rules.rows) _ _ (shape-table bonds n) refl refl

  -- they have one shape, and are so many
  pub all-shape : (given : Result (ℕ → Bonds) CouplingsRefused) (n : ℕ) (plans : List Plan) → plans_by file rules swaps n given ≡ Ok plans
      → HaveShape file.lattice (length rules.rows) plans × (length plans ≡ n)
  unfolding bank_plans
  all-shape (Ok bonds) n plans is =
      let all = table (λ g. plan_with file rules swaps (couplings_with file.lattice (bank_of g bonds))) n in
      let same : all ≡ plans = same-ok _ _ is in
      (subst (HaveShape file.lattice (length rules.rows)) same (shape-table bonds n), sym (ap length same) ∙ length-table _ n)
    where
      same-ok : (a b : List Plan) → ◌≡◌ {A = Result (List Plan) CouplingsRefused} (Ok a) (Ok b) → a ≡ b
      same-ok a b e = cc
  all-shape (Err e) n plans is = absurd cc

-- ---- of a file

-- a bank's couplings of a file are those that its reader reads
pub stored-by : (name : List ℕ) (l g seed : ℕ) (bytes : List ℕ) → couplings_in l g bytes ≡ couplings_by l g (bonds_in (sources.File name) l seed bytes)
unfolding bonds_in couplings_in
stored-by name l g seed bytes = by-refusal (file_refusal l bytes)
  where
    by-refusal : (found : Option CouplingsRefused) → unless found (couplings_with l (bank_of g (of_file l bytes))) ≡ couplings_by l g (unless found (of_file l bytes))
    by-refusal None = refl
    by-refusal (Some e) = refl

-- tests that come before the first growth come before an answer
pub gives-after : {A B E : Type 0} (memory : E) (view : A → B) (result : Result A E) (read : Result B E) → GivesAfterTests memory view result read → Gives memory view result read
gives-after memory view (Ok x) read is = is
gives-after memory view (Err e) read is = is.1
