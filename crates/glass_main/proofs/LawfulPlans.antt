-- The plans and the orders of a run whose files nothing refuses are lawful.
use Rattle.std.proofs.Common.{arith, ◌≡◌, ℕ, zero, suc, ◌+◌, ◌-◌, ◌*◌, ◌^◌, ◌<◌, ◌≤◌, Bool, true, false, cond, List, length, Option, Some, None, Result, Ok, Err, refl, sym, ap, subst}
use Rattle.std.specs.Prelude.{nat_le, nat_lt}
use Rattle.std.proofs.Math.Nat.{pow-suc}
use Rattle.std.proofs.lemmas.Bool.{leb-true, leb-false, ltb-false}
use Rattle.coupling_set.specs.BondsAsWords.{word_of, bond_at, couplings_with, bank_of}
use Rattle.coupling_set.specs.CouplingWords.{CouplingsView, AreCouplings}
use Rattle.coupling_set.specs.CouplingsFile.{couplings_in, file_refusal, of_file}
use Rattle.coupling_set.specs.declared.refused.CouplingsRefused.{CouplingsRefused}
use Rattle.glass_edges.specs.Contents.{Files}
use Rattle.glass_edges.specs.Refusals.{first_found}
use Rattle.glass_edges.proofs.FirstRefusals.{or-none, unless-ok, is-found}
use Rattle.run_checkpoint.proofs.WrittenAgain.{all-table}
use Rattle.run_plan.specs.Banks.{banks_refusal}
use Rattle.run_plan.specs.PlanOf.{plan_with}
use Rattle.run_plan.specs.RunFile.{document, keys, key_refusal, members_refusal, values_of, run_file_in, run_file, IsLawfulRunFile}
use Rattle.run_plan.specs.declared.refused.PlanRefused.{PlanRefused}
use Rattle.run_plan.specs.declared.refused.PlanRefused.TheVariants as plan_refused
use Rattle.run_plan.specs.declared.run_file.CouplingSource.{CouplingSource}
use Rattle.run_plan.specs.declared.run_file.CouplingSource.TheVariants as sources
use Rattle.run_plan.specs.declared.run_file.Orders.{Orders}
use Rattle.run_plan.specs.declared.run_file.RunFile.{RunFile}
use Rattle.run_plan.proofs.Rows.{each-passes, values-lawful}
use Rattle.scalar_rule.specs.Plan.{Plan, IsLawfulPlan}
use Rattle.spin_model.specs.Couplings.{Bonds, plus, random}
use Rattle.spin_model.specs.Lattice.{IsLawfulSize, bond_count}
use Rattle.spin_model.specs.Steps.{table}
use Rattle.spin_model.specs.Words.{one_if}
use Rattle.spin_model.proofs.Tables.{length-table}
use Rattle.threshold_table.specs.TableText.{table_refusal, rows_of, table_of}
use Rattle.threshold_table.specs.Tables.{RuleView, IsLawfulRules, IsLawfulSwaps, rule_width, rule_height, rule_table, swap_width, swap_height, swap_table}
use Rattle.threshold_table.specs.declared.rule_table.RuleKind.{RuleKind}
use Rattle.threshold_table.proofs.Lawful.{found-lawful}
use Rattle.threshold_table.proofs.Readings.{rule-lawful}
use Rattle.toml.specs.Data.{Members}
use Rattle.glass_main.specs.LawfulRequests.{IsLawfulPlanned, AreLawfulBanks, AreLawfulPlans, AreLawfulBanked}
use Rattle.glass_main.specs.ManyBanks.{PlannedBanks, bank_count, bank_plans}
use Rattle.glass_main.specs.Request.{and_then, told_as, bytes_at, banked, run_file_at, rules_at, swaps_at, couplings_from, couplings_at, plan_after_rules, plan_after_file, plan_at, bonds_in, stored_at, banks_by, banks_after_tables, banks_after_rules, banks_after_file, plans_after_file, plans_at, cross_plans_at}
use Rattle.glass_main.specs.declared.planned.Planned.{Planned}
use Rattle.glass_main.specs.declared.plans.Plans.{Plans}
use Rattle.glass_main.specs.declared.plans.Plans.TheVariants.{One, Banks}
use Rattle.glass_main.specs.declared.refusal.Refusal.{Refusal}
use Rattle.glass_main.specs.declared.refusal.Refusal.TheVariants as refused
use Rattle.glass_main.specs.declared.role.Role.TheVariants as roles
use Rattle.glass_main.proofs.BankPlans.{all-shape}
use Rattle.glass_main.proofs.BankedFiles.{orders-of-one-bank}
use Rattle.glass_main.proofs.OneOfBanks.{stepped, same-ok}
use Rattle.glass_main.proofs.SwapPairs.{swap_table-pairs}

-- what a reader gave that was told so
pub told-ok : {A E : Type 0} (tell : E → Refusal) (read : Result A E) (x : A) → told_as tell read ≡ Ok x → read ≡ Ok x
told-ok tell (Ok y) x is = let same : y ≡ x = same-ok y x is in ap Ok same
told-ok tell (Err e) x is = absurd cc

-- ---- the run file

members-lawful : (found : Option Members) (file : RunFile) → run_file_in found ≡ Ok file → IsLawfulRunFile file
unfolding members_refusal
members-lawful None file is = absurd cc
members-lawful (Some members) file is =
    let read = unless-ok (members_refusal members) (values_of members) file is in
    let passed = or-none (first_found (λ _ key. key_refusal members key) 0 keys) _ read.0 in
    subst IsLawfulRunFile read.1 (values-lawful members (each-passes members (sym passed.0)))

file-lawful : (bytes : List ℕ) (file : RunFile) → run_file bytes ≡ Ok file → IsLawfulRunFile file
unfolding run_file
file-lawful bytes file is = members-lawful (document bytes) file is

banked-ok : (many : Bool) (read : Result RunFile PlanRefused) (file : RunFile) → banked many read ≡ Ok file → (read ≡ Ok file) × (None ≡ banks_refusal file.orders many)
banked-ok many (Ok own) file is =
    let passed = unless-ok (banks_refusal own.orders many) own file is in
    (ap Ok passed.1, subst (λ (f : RunFile). None ≡ banks_refusal f.orders many) passed.1 passed.0)
banked-ok many (Err e) file is = absurd cc

file-read : (many : Bool) (name : List ℕ) (files : Files) (file : RunFile) → run_file_at many name files ≡ Ok file → IsLawfulRunFile file × (None ≡ banks_refusal file.orders many)
unfolding run_file_at
file-read many name files file is =
    let bytes = stepped (bytes_at roles.RunFile name files) (λ bytes. told_as refused.Plan (banked many (run_file bytes))) file is in
    let passed = banked-ok many (run_file bytes.0) file (told-ok refused.Plan (banked many (run_file bytes.0)) file bytes.2) in
    (file-lawful bytes.0 file passed.0, passed.1)

-- a command of one bank accepts at most 64 samples
few-samples : (orders : Orders) (more : Bool) → nat_lt 64 orders.samples ≡ more → None ≡ cond more (Some (plan_refused.Banks orders.samples)) None → orders.samples ≤ 64
few-samples orders true more none = absurd cc
few-samples orders false more none = ltb-false 64 orders.samples more

-- ---- tables

rules-lawful : (kind : RuleKind) (bytes : List ℕ) (rules : RuleView) → rule_table kind bytes ≡ Ok rules → IsLawfulRules rules
unfolding rule_table table_of
rules-lawful kind bytes rules is =
    let own : RuleView = record { kind = kind; rows = rows_of bytes } in
    let read = unless-ok (table_refusal (rule_width kind) rule_height bytes) own rules is in
    let found = is-found (table_refusal (rule_width kind) rule_height bytes) (rows_of bytes) (rows_of bytes) read.0 refl in
    subst IsLawfulRules read.1 (rule-lawful kind (rule_width kind) bytes refl (rows_of bytes) found)

swaps-lawful : (slots : ℕ) (bytes : List ℕ) (swaps : List (List ℕ)) → slots ≤ 32 → swap_table slots bytes ≡ Ok swaps → IsLawfulSwaps swaps
unfolding swap_table
swaps-lawful slots bytes swaps few is =
    let found = found-lawful swap_width (swap_height (slots - 1)) bytes swaps is in
    record { few = omega (arith, found.most, few); rows = found.rows }

-- both tables of a run file
record AreTables (rules : RuleView) (swaps : List (List ℕ)) : Type 0 where
  rules_are : IsLawfulRules rules
  swaps_are : IsLawfulSwaps swaps
  pairs : length swaps ≡ length rules.rows - 1

tables-read : (file : RunFile) (files : Files) (rules : RuleView) (swaps : List (List ℕ)) → rules_at file files ≡ Ok rules → swaps_at file rules files ≡ Ok swaps → AreTables rules swaps
unfolding rules_at swaps_at
tables-read file files rules swaps first second =
    let r = stepped (bytes_at roles.RuleTable file.rules files) (λ bytes. told_as refused.Rules (rule_table file.kind bytes)) rules first in
    let s = stepped (bytes_at roles.SwapTable file.swaps files) (λ bytes. told_as refused.Swaps (swap_table (length rules.rows) bytes)) swaps second in
    let lawful = rules-lawful file.kind r.0 rules (told-ok refused.Rules (rule_table file.kind r.0) rules r.2) in
    let read = told-ok refused.Swaps (swap_table (length rules.rows) s.0) swaps s.2 in
    record { rules_are = lawful; swaps_are = swaps-lawful (length rules.rows) s.0 swaps lawful.few read; pairs = swap_table-pairs (length rules.rows) s.0 swaps read }

-- ---- couplings

one_if-add : (t : Bool) (power rest : ℕ) → rest < power → one_if t * power + rest < power * 2
one_if-add true power rest below = omega arith
one_if-add false power rest below = omega arith

word-below : (test : ℕ → Bool) (n : ℕ) → word_of test n < 2 ^ n
unfolding word_of
word-below test zero = search arith
word-below test (suc n) = rw (pow-suc 2 n) (one_if-add (test n) (2 ^ n) (word_of test n) (word-below test n))

-- couplings that are given bond by bond
couplings-lawful : (l : ℕ) (bonds : ℕ → Bonds) → IsLawfulSize l → AreCouplings (couplings_with l bonds)
unfolding couplings_with
couplings-lawful l bonds lawful =
    let word : ℕ → ℕ = λ place. word_of (λ b. bonds b (bond_at l place)) 64 in
    record {
      lawful = lawful;
      sized = length-table word (bond_count l);
      in_range = all-table (λ w. w < 2 ^ 64) word (bond_count l) (λ place within. word-below (λ b. bonds b (bond_at l place)) 64);
    }

-- those of a source are
bonds-of : (source : CouplingSource) (l seed : ℕ) (files : Files) (couplings : CouplingsView) → couplings_from source l seed files ≡ Ok couplings
    → (bonds : ℕ → Bonds) × (couplings_with l bonds ≡ couplings)
unfolding couplings_from couplings_in
bonds-of sources.Plus l seed files couplings is = (plus, same-ok _ _ is)
bonds-of sources.Random l seed files couplings is = (random seed, same-ok _ _ is)
bonds-of (sources.File name) l seed files couplings is =
    let bytes = stepped (bytes_at roles.Couplings name files) (λ bytes. told_as refused.Couplings (couplings_in l 0 bytes)) couplings is in
    let bonds = bank_of 0 (of_file l bytes.0) in
    let read = unless-ok (file_refusal l bytes.0) (couplings_with l bonds) couplings (told-ok refused.Couplings (couplings_in l 0 bytes.0) couplings bytes.2) in
    (bonds, read.1)

-- ---- one bank

plan-lawful : (file : RunFile) (rules : RuleView) (swaps : List (List ℕ)) (bonds : ℕ → Bonds) → IsLawfulRunFile file → AreTables rules swaps
    → IsLawfulPlan (plan_with file rules swaps (couplings_with file.lattice bonds))
unfolding couplings_with
plan-lawful file rules swaps bonds lawful tables =
    let some = tables.rules_are.some in
    let pairs = tables.pairs in
    record {
      size = lawful.size;
      rules = tables.rules_are;
      swaps = tables.swaps_are;
      pairs = omega arith;
      couplings = couplings-lawful file.lattice bonds lawful.size;
      lattice = refl;
      some_sweeps = lawful.some_sweeps;
      few_sweeps = lawful.few_sweeps;
      seed = lawful.seed;
    }

plan-read : (file : RunFile) (files : Files) (planned : Planned) → IsLawfulRunFile file → file.orders.samples ≤ 64 → plan_after_file file files ≡ Ok planned → IsLawfulPlanned planned
unfolding plan_after_file plan_after_rules
plan-read file files planned lawful few is =
    let r = stepped (rules_at file files) (λ rules. plan_after_rules file rules files) planned is in
    let next : List (List ℕ) → CouplingsView → Result Planned Refusal = λ swaps couplings. Ok (record { plan = plan_with file r.0 swaps couplings; orders = file.orders }) in
    let s = stepped (swaps_at file r.0 files) (λ swaps. and_then (couplings_at file files) (next swaps)) planned r.2 in
    let c = stepped (couplings_at file files) (next s.0) planned s.2 in
    let bonds = bonds-of file.couplings file.lattice file.seed files c.0 c.1 in
    let L : CouplingsView → Type 0 = λ couplings. IsLawfulPlan (plan_with file r.0 s.0 couplings) in
    let plan = subst L bonds.1 (plan-lawful file r.0 s.0 bonds.0 lawful (tables-read file files r.0 s.0 r.1 s.1)) in
    let made : Planned = record { plan = plan_with file r.0 s.0 c.0; orders = file.orders } in
    let own : IsLawfulPlanned made = record { plan = plan; orders = orders-of-one-bank file lawful few } in
    subst IsLawfulPlanned (same-ok made planned c.2) own

-- of a command that runs one bank alone
pub one-lawful : (name : List ℕ) (files : Files) (planned : Planned) → plan_at name files ≡ Ok planned → IsLawfulPlanned planned
unfolding plan_at
one-lawful name files planned is =
    let file = stepped (run_file_at false name files) (λ file. plan_after_file file files) planned is in
    let read = file-read false name files file.0 file.1 in
    plan-read file.0 files planned read.0 (few-samples file.0.orders (nat_lt 64 file.0.orders.samples) refl read.1) file.2

-- ---- several banks

banks-lawful : (file : RunFile) (rules : RuleView) (swaps : List (List ℕ)) (given : Result (ℕ → Bonds) CouplingsRefused) (planned : PlannedBanks)
    → IsLawfulRunFile file → 64 < file.orders.samples → AreTables rules swaps → banks_by file rules swaps given ≡ Ok planned → AreLawfulBanks planned
unfolding bank_plans
banks-lawful file rules swaps (Ok bonds) planned lawful several tables is =
    let make : ℕ → Plan = λ g. plan_with file rules swaps (couplings_with file.lattice (bank_of g bonds)) in
    let n = bank_count file.orders.samples in
    let plans = table make n in
    let shape = all-shape file rules swaps (Ok bonds) n plans refl in
    let long = shape.1 in
    let few = lawful.orders.few_samples in
    let made : PlannedBanks = record { plans = plans; orders = file.orders } in
    let own : AreLawfulBanks made = record {
      plans = record {
        several = omega arith;
        few = omega arith;
        lawful = all-table IsLawfulPlan make n (λ g within. plan-lawful file rules swaps (bank_of g bonds) lawful tables);
        shape = record { size = file.lattice; slots = length rules.rows; shape = shape.0 };
      };
      count = long;
      orders = lawful.orders;
    } in
    subst AreLawfulBanks (same-ok made planned is) own
banks-lawful file rules swaps (Err e) planned lawful several tables is = absurd cc

banks-read : (file : RunFile) (files : Files) (planned : PlannedBanks) → IsLawfulRunFile file → 64 < file.orders.samples → banks_after_file file files ≡ Ok planned → AreLawfulBanks planned
unfolding banks_after_file banks_after_rules banks_after_tables
banks-read file files planned lawful several is =
    let r = stepped (rules_at file files) (λ rules. banks_after_rules file rules files) planned is in
    let s = stepped (swaps_at file r.0 files) (λ swaps. banks_after_tables file r.0 swaps files) planned r.2 in
    let given : List ℕ → Result (ℕ → Bonds) CouplingsRefused = λ bytes. bonds_in file.couplings file.lattice file.seed bytes in
    let b = stepped (stored_at file.couplings files) (λ bytes. told_as refused.Couplings (banks_by file r.0 s.0 (given bytes))) planned s.2 in
    banks-lawful file r.0 s.0 (given b.0) planned lawful several (tables-read file files r.0 s.0 r.1 s.1)
    (told-ok refused.Couplings (banks_by file r.0 s.0 (given b.0)) planned b.2)

-- ---- either

by-samples : (file : RunFile) (files : Files) (plans : Plans) (few : Bool) → nat_le file.orders.samples 64 ≡ few → IsLawfulRunFile file
    → cond few (and_then (plan_after_file file files) (λ planned. Ok (One planned))) (and_then (banks_after_file file files) (λ planned. Ok (Banks planned))) ≡ Ok plans
    → AreLawfulPlans plans
by-samples file files plans true few lawful is =
    let p = stepped (plan_after_file file files) (λ planned. Ok (One planned)) plans is in
    subst AreLawfulPlans (same-ok (One p.0) plans p.2) (plan-read file files p.0 lawful (leb-true file.orders.samples 64 few) p.1)
by-samples file files plans false few lawful is =
    let p = stepped (banks_after_file file files) (λ planned. Ok (Banks planned)) plans is in
    subst AreLawfulPlans (same-ok (Banks p.0) plans p.2) (banks-read file files p.0 lawful (leb-false file.orders.samples 64 few) p.1)

-- of a command that may run several banks
pub plans-lawful : (many : Bool) (name : List ℕ) (files : Files) (plans : Plans) → plans_at many name files ≡ Ok plans → AreLawfulPlans plans
unfolding plans_at plans_after_file
plans-lawful many name files plans is =
    let file = stepped (run_file_at many name files) (λ file. plans_after_file file files) plans is in
    by-samples file.0 files plans (nat_le file.0.orders.samples 64) refl (file-read many name files file.0 file.1).0 file.2

-- ---- two states

states-lawful : (file : RunFile) (rules : RuleView) (swaps : List (List ℕ)) (given : Result (ℕ → Bonds) CouplingsRefused) (planned : PlannedBanks)
    → IsLawfulRunFile file → AreTables rules swaps → banks_by file rules swaps given ≡ Ok planned → AreLawfulBanked planned
unfolding bank_plans
states-lawful file rules swaps (Ok bonds) planned lawful tables is =
    let make : ℕ → Plan = λ g. plan_with file rules swaps (couplings_with file.lattice (bank_of g bonds)) in
    let n = bank_count file.orders.samples in
    let plans = table make n in
    let shape = all-shape file rules swaps (Ok bonds) n plans refl in
    let made : PlannedBanks = record { plans = plans; orders = file.orders } in
    let own : AreLawfulBanked made = record {
      plans = all-table IsLawfulPlan make n (λ g within. plan-lawful file rules swaps (bank_of g bonds) lawful tables);
      shape = record { size = file.lattice; slots = length rules.rows; shape = shape.0 };
      count = shape.1;
      orders = lawful.orders;
    } in
    subst AreLawfulBanked (same-ok made planned is) own
states-lawful file rules swaps (Err e) planned lawful tables is = absurd cc

states-read : (file : RunFile) (files : Files) (planned : PlannedBanks) → IsLawfulRunFile file → banks_after_file file files ≡ Ok planned → AreLawfulBanked planned
unfolding banks_after_file banks_after_rules banks_after_tables
states-read file files planned lawful is =
    let r = stepped (rules_at file files) (λ rules. banks_after_rules file rules files) planned is in
    let s = stepped (swaps_at file r.0 files) (λ swaps. banks_after_tables file r.0 swaps files) planned r.2 in
    let given : List ℕ → Result (ℕ → Bonds) CouplingsRefused = λ bytes. bonds_in file.couplings file.lattice file.seed bytes in
    let b = stepped (stored_at file.couplings files) (λ bytes. told_as refused.Couplings (banks_by file r.0 s.0 (given bytes))) planned s.2 in
    states-lawful file r.0 s.0 (given b.0) planned lawful (tables-read file files r.0 s.0 r.1 s.1)
    (told-ok refused.Couplings (banks_by file r.0 s.0 (given b.0)) planned b.2)

-- the plans of two states
pub crossed-lawful : (name : List ℕ) (files : Files) (planned : PlannedBanks) → cross_plans_at name files ≡ Ok planned → AreLawfulBanked planned
unfolding cross_plans_at
crossed-lawful name files planned is =
    let file = stepped (run_file_at true name files) (λ file. banks_after_file file files) planned is in
    states-read file.0 files planned (file-read true name files file.0 file.1).0 file.2
