-- Bank 0 of a run of several banks is the run with 64 samples.
use Rattle.std.proofs.Common.{arith, ◌≡◌, ℕ, ◌+◌, ◌-◌, ◌*◌, ◌<◌, List, ◌∷◌, ◌++◌, [], Option, Some, None, Result, Ok, Err, refl, ap, ◌∙◌, subst}
use Rattle.coupling_set.specs.BondsAsWords.{couplings_with, bank_of}
use Rattle.coupling_set.specs.CouplingWords.{CouplingsView}
use Rattle.coupling_set.specs.CouplingsFile.{file_refusal, of_file, couplings_in}
use Rattle.coupling_set.specs.declared.refused.CouplingsRefused.{CouplingsRefused}
use Rattle.glass_edges.specs.Contents.{Files}
use Rattle.glass_edges.specs.Refusals.{unless}
use Rattle.glass_engine.specs.BankLaws.{banks_with}
use Rattle.glass_engine.proofs.BankLaws.{of-first, below-64}
use Rattle.glass_engine.specs.Banks.{Bank, banks_measured, banks_slots}
use Rattle.run_plan.specs.PlanOf.{plan_with}
use Rattle.run_plan.specs.declared.run_file.CouplingSource.{CouplingSource}
use Rattle.run_plan.specs.declared.run_file.CouplingSource.TheVariants as sources
use Rattle.run_plan.specs.declared.run_file.RunFile.{RunFile}
use Rattle.scalar_rule.specs.Opening.{opening}
use Rattle.scalar_rule.specs.Plan.{Plan}
use Rattle.scalar_rule.specs.Serial.{serial}
use Rattle.spin_model.specs.Couplings.{Bonds, plus, random}
use Rattle.spin_model.specs.Steps.{table}
use Rattle.spin_model.proofs.Tables.{table-add, table-zero, table-more}
use Rattle.threshold_table.specs.Tables.{RuleView}
use Rattle.glass_main.specs.ManyBanks.{PlannedBanks, bank_count, bank_plans, openings_from}
use Rattle.glass_main.specs.Request.{and_then, told_as, bytes_at, bonds_in, banks_by, stored_at, couplings_from, rules_at, swaps_at, banks_after_tables, banks_after_rules, banks_after_file, plan_after_rules, plan_after_file}
use Rattle.glass_main.specs.SampleLaws.{file_for_64, sample_state, IsOfOneBank}
use Rattle.glass_main.specs.declared.planned.Planned.{Planned}
use Rattle.glass_main.specs.declared.refusal.Refusal.{Refusal}
use Rattle.glass_main.specs.declared.refusal.Refusal.TheVariants as refused
use Rattle.glass_main.specs.declared.role.Role.TheVariants as roles

-- a step that gave something
pub stepped : {A B : Type 0} (a : Result A Refusal) (next : A → Result B Refusal) (y : B) → and_then a next ≡ Ok y → (x : A) × (a ≡ Ok x) × (next x ≡ Ok y)
stepped (Ok x) next y is = (x, refl, is)
stepped (Err e) next y is = absurd cc

again : {A B : Type 0} (a : Result A Refusal) (next : A → Result B Refusal) (x : A) (y : B) → a ≡ Ok x → and_then a next ≡ Ok y → next x ≡ Ok y
again a next x y is all = subst (λ (r : Result _ Refusal). and_then r next ≡ Ok y) is all

-- couplings of bank 0 are those of the first 64 samples
first-bank : (l : ℕ) (bonds : ℕ → Bonds) → couplings_with l (bank_of 0 bonds) ≡ couplings_with l bonds
first-bank l bonds =
    let at : (m : ℕ) → 64 * 0 + m ≡ m = λ m. omega arith in
    let same : bank_of 0 bonds ≡ bonds = λ k. λ m. bonds (at m k) in
    ap (couplings_with l) same

-- the plan of bank 0 stands first
first-plan : (plan_of : CouplingsView → Plan) (l n : ℕ) (bonds : ℕ → Bonds) → 0 < n
    → bank_plans plan_of l n bonds ≡ plan_of (couplings_with l (bank_of 0 bonds)) ∷ table (λ g. plan_of (couplings_with l (bank_of (1 + g) bonds))) (n - 1)
unfolding bank_plans
first-plan plan_of l n bonds some =
    let f : ℕ → Plan = λ g. plan_of (couplings_with l (bank_of g bonds)) in
    let size : n ≡ 1 + (n - 1) = omega arith in
    let one : table f 1 ≡ f 0 ∷ [] = table-more f 0 ∙ ap (λ xs. xs ++ f 0 ∷ []) (table-zero f) in
    ap (table f) size ∙ table-add f 1 (n - 1) ∙ ap (λ xs. xs ++ table (λ g. f (1 + g)) (n - 1)) one

pub same-ok : {A E : Type 0} (a b : A) → ◌≡◌ {A = Result A E} (Ok a) (Ok b) → a ≡ b
same-ok a b e = cc

-- the plans and the orders by J of each sample
abbrev planned_by : RunFile → RuleView → List (List ℕ) → (ℕ → Bonds) → PlannedBanks
planned_by file rules swaps bonds = record {
  plans = bank_plans (λ couplings. plan_with file rules swaps couplings) file.lattice (bank_count file.orders.samples) bonds;
  orders = file.orders;
}

-- J, of which both runs have their couplings
by-source : (source : CouplingSource) (file : RunFile) (rules : RuleView) (swaps : List (List ℕ)) (files : Files) (planned : PlannedBanks) (couplings : CouplingsView)
    → and_then (stored_at source files) (λ bytes. told_as refused.Couplings (banks_by file rules swaps (bonds_in source file.lattice file.seed bytes))) ≡ Ok planned
    → couplings_from source file.lattice file.seed files ≡ Ok couplings
    → (bonds : ℕ → Bonds) × (planned_by file rules swaps bonds ≡ planned) × (couplings_with file.lattice (bank_of 0 bonds) ≡ couplings)
unfolding stored_at bonds_in couplings_from couplings_in
by-source sources.Plus file rules swaps files planned couplings h k = (plus, same-ok _ _ h, first-bank file.lattice plus ∙ same-ok _ _ k)
by-source sources.Random file rules swaps files planned couplings h k = (random file.seed, same-ok _ _ h, first-bank file.lattice (random file.seed) ∙ same-ok _ _ k)
by-source (sources.File name) file rules swaps files planned couplings h k = by-bytes (bytes_at roles.Couplings name files) h k
  where
    by-bytes : (given : Result (List ℕ) Refusal)
        → and_then given (λ bytes. told_as refused.Couplings (banks_by file rules swaps (unless (file_refusal file.lattice bytes) (of_file file.lattice bytes)))) ≡ Ok planned
        → and_then given (λ bytes. told_as refused.Couplings (couplings_in file.lattice 0 bytes)) ≡ Ok couplings
        → (bonds : ℕ → Bonds) × (planned_by file rules swaps bonds ≡ planned) × (couplings_with file.lattice (bank_of 0 bonds) ≡ couplings)
    by-bytes (Err e) a c = absurd cc
    by-bytes (Ok bytes) a c = by-refusal (file_refusal file.lattice bytes) a c
      where
        by-refusal : (found : Option CouplingsRefused)
            → told_as refused.Couplings (banks_by file rules swaps (unless found (of_file file.lattice bytes))) ≡ Ok planned
            → told_as refused.Couplings (unless found (couplings_with file.lattice (bank_of 0 (of_file file.lattice bytes)))) ≡ Ok couplings
            → (bonds : ℕ → Bonds) × (planned_by file rules swaps bonds ≡ planned) × (couplings_with file.lattice (bank_of 0 bonds) ≡ couplings)
        by-refusal None x y = (of_file file.lattice bytes, same-ok _ _ x, same-ok _ _ y)
        by-refusal (Some e) x y = absurd cc

-- the samples of bank 0
of-bank-0 : (file : RunFile) (rules : RuleView) (swaps : List (List ℕ)) (bonds : ℕ → Bonds) (b : ℕ) → 64 < file.orders.samples → b < 64
    → IsOfOneBank (record { plan = plan_with file rules swaps (couplings_with file.lattice (bank_of 0 bonds)); orders = (file_for_64 file).orders }) (planned_by file rules swaps bonds) b
unfolding banks_with openings_from
of-bank-0 file rules swaps bonds b several below =
    let plan_of : CouplingsView → Plan = λ couplings. plan_with file rules swaps couplings in
    let start = file.orders.start in
    let n = bank_count file.orders.samples in
    let p = plan_of (couplings_with file.lattice (bank_of 0 bonds)) in
    let rest = table (λ g. plan_of (couplings_with file.lattice (bank_of (1 + g) bonds))) (n - 1) in
    let first = first-plan plan_of file.lattice n bonds (omega arith) in
    let bank : Bank = record { plan = p; start = opening p start 0 } in
    let others = banks_with rest (openings_from (0 + 1) rest start) in
    let law = below-64 bank others b below in
    record {
      records = λ f. ap (λ ps. banks_measured (banks_with ps (openings_from 0 ps start)) b f) first ∙ law.records f;
      slots = λ e. ap (λ ps. banks_slots (banks_with ps (openings_from 0 ps start)) e b) first ∙ law.slots e;
      state = λ none e. ap (λ ps. sample_state none (banks_with ps (openings_from 0 ps start)) e b) first
          ∙ of-first none (λ (x : Bank) m. serial x.plan (x.start m) e) bank others b below;
    }

by-parts : (file : RunFile) (rules : RuleView) (swaps : List (List ℕ)) (bonds : ℕ → Bonds) (couplings : CouplingsView) (planned : PlannedBanks) (one : Planned) (b : ℕ) → 64 < file.orders.samples → b < 64
    → planned_by file rules swaps bonds ≡ planned → couplings_with file.lattice (bank_of 0 bonds) ≡ couplings
    → ◌≡◌ {A = Planned} (record { plan = plan_with file rules swaps couplings; orders = (file_for_64 file).orders }) one → IsOfOneBank one planned b
by-parts file rules swaps bonds couplings planned one b several below all first is =
    let make : CouplingsView → Planned = λ x. record { plan = plan_with file rules swaps x; orders = (file_for_64 file).orders } in
    let own = make (couplings_with file.lattice (bank_of 0 bonds)) in
    let same : own ≡ one = ap make first ∙ is in
    subst (λ (o : Planned). IsOfOneBank o planned b) same (subst (λ (p : PlannedBanks). IsOfOneBank own p b) all (of-bank-0 file rules swaps bonds b several below))

pub one-of-banks : (file : RunFile) (files : Files) (planned : PlannedBanks) (one : Planned) (b : ℕ) → 64 < file.orders.samples → banks_after_file file files ≡ Ok planned
    → plan_after_file (file_for_64 file) files ≡ Ok one → b < 64 → IsOfOneBank one planned b
unfolding banks_after_file banks_after_rules banks_after_tables plan_after_file plan_after_rules rules_at swaps_at
one-of-banks file files planned one b several h k below =
    let small = file_for_64 file in
    let r = stepped (rules_at file files) (λ rules. banks_after_rules file rules files) planned h in
    let s = stepped (swaps_at file r.0 files) (λ swaps. banks_after_tables file r.0 swaps files) planned r.2 in
    let next : List (List ℕ) → CouplingsView → Result Planned Refusal = λ swaps couplings. Ok (record { plan = plan_with small r.0 swaps couplings; orders = small.orders }) in
    let k1 = again (rules_at file files) (λ rules. plan_after_rules small rules files) r.0 one r.1 k in
    let k2 = again (swaps_at file r.0 files) (λ swaps. and_then (couplings_from file.couplings file.lattice file.seed files) (next swaps)) s.0 one s.1 k1 in
    let c = stepped (couplings_from file.couplings file.lattice file.seed files) (next s.0) one k2 in
    let d = by-source file.couplings file r.0 s.0 files planned c.0 s.2 c.1 in
    by-parts file r.0 s.0 d.0 c.0 planned one b several below d.1 d.2 (same-ok _ _ c.2)
