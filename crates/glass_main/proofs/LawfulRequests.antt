-- What is asked for, where nothing refuses it, is lawful: its plans and its orders, what a run begins with, and its last epoch.
use Rattle.std.proofs.Common.{arith, ◌≡◌, inl, inr, ℕ, ◌≤◌, Bool, true, false, cond, List, [], ◌∷◌, Option, Some, None, option_map, IfSome, Result, Ok, Err, refl, sym, ap, subst}
use Rattle.std.specs.FinMap as finmap
use Rattle.std.specs.Prelude.{IfOk, nat_le, ◌&&◌, unwrap_or}
use Rattle.std.proofs.lemmas.Bool.{and_parts, leb-true}
use Rattle.glass_edges.specs.Contents.{Files}
use Rattle.glass_edges.specs.Refusals.{unless}
use Rattle.glass_edges.specs.Decimal.{value_of}
use Rattle.glass_edges.proofs.FirstRefusals.{unless-ok}
use Rattle.plane_sweep.specs.declared.stand.Stand.{Stand}
use Rattle.run_plan.specs.Amounts.{amount_refusal}
use Rattle.scalar_rule.specs.declared.sample.Sample.{Sample}
use Rattle.glass_main.specs.Beginnings.{Beginning, Level, Uneven, opened_by, begins_at, resumed_by}
use Rattle.glass_main.specs.CheckpointBytes.{AreBytes, ResumesBytes, ReadsBytes}
use Rattle.command_words.specs.CommandLine.{LinesOrder, Command, Plain, Check, Run, Average, Demo, Lines, Potts, Age, Measure, Cross, command_of}
use Rattle.command_words.specs.MeasureWords.{MeasureOrder, run_to_measure}
use Rattle.glass_main.specs.LawfulRequests.{IsLawfulPlanned, AreLawfulBanks, AreLawfulPlans, AreLawfulBanked, IsLawfulRun, IsLawfulRunOfBanks, IsLawfulMeasuring, IsLawfulWork}
use Rattle.command_words.specs.CrossWords.{CrossOrder}
use Rattle.glass_main.specs.CrossRun.{CrossedStates, seeded}
use Rattle.glass_main.specs.ManyBanks.{PlannedBanks, banks_opened_by, banks_resumed_by, starts_at, banks_amount_refusal}
use Rattle.glass_main.specs.MeasureRun.{banks_of, level_resumed_by}
use Rattle.glass_main.specs.Request.{Work, CheckWork, RunWork, BanksWork, AverageWork, LinesWork, AgeWork, MeasureWork, banked_at, level_beginning_at, measured_until, measure_from, measure_at, CrossWork, cross_plans_at, first_at, second_at, crossed_after, crossed_at, and_then, told_as, bytes_in, bytes_at, plan_at, plans_at, read_at, beginning_at, banks_beginning_at, run_work, banks_work, until_of, run_from, banks_from, run_of, run_at, has_banks, averages_at, stand_at, saved_at, request_for, request}
use Rattle.command_words.specs.RunWords.{RunOrder, Until, MaySay, values_in}
use Rattle.glass_main.specs.StopLaws.{IsEncodingOf, IsBeginning, reached_by}
use Rattle.glass_main.specs.ResumeLaws.{AreBeginnings}
use Rattle.command_words.specs.Words.{is_number, number_word}
use Rattle.glass_main.specs.declared.planned.Planned.{Planned}
use Rattle.glass_main.specs.declared.plans.Plans.{Plans}
use Rattle.glass_main.specs.declared.plans.Plans.TheVariants.{One, Banks}
use Rattle.glass_main.specs.declared.saved_state.SavedState.{SavedState}
use Rattle.glass_main.specs.declared.role.Role.{Role}
use Rattle.glass_main.specs.declared.role.Role.TheVariants as roles
use Rattle.glass_main.specs.declared.refusal.Refusal.{Refusal}
use Rattle.glass_main.specs.declared.refusal.Refusal.TheVariants as refused
use Rattle.glass_main.proofs.BanksGoOn.{banks-at, first-at, opened-at}
use Rattle.glass_main.proofs.LawfulPlans.{told-ok, one-lawful, plans-lawful, crossed-lawful}
use Rattle.glass_main.proofs.LevelStarts.{banked-lawful, some-plans, accepted-level}
use Rattle.glass_main.proofs.OneOfBanks.{stepped, same-ok}
use Rattle.glass_main.proofs.ReadBytes.{held-is}
use Rattle.glass_main.proofs.ReadRuns.{accepted-banks}
use Rattle.glass_main.proofs.ReadStops.{accepted}
use Rattle.command_words.proofs.SaidCommands.{command_of-run, command_of-measure}

-- ---- the last epoch

number-short : (number small : Bool) (n : ℕ) (value : Option ℕ) → (small ≡ true → n ≤ 1000000000) → option_map Some (cond number (cond small (Some n) None) None) ≡ Some value
    → IfSome value (λ e. e ≤ 1000000000)
number-short true true n value short is =
    let same : Some n ≡ value = cc in
    subst (λ v. IfSome v (λ e. e ≤ 1000000000)) same (short refl)
number-short true false n value short is = absurd cc
number-short false small n value short is = absurd cc

said-short : (texts : List (List ℕ)) (value : Option ℕ) → MaySay (number_word 0 1000000000) texts value → IfSome value (λ e. e ≤ 1000000000)
said-short [] value said = subst (λ v. IfSome v (λ e. e ≤ 1000000000)) (sym said) tt
said-short (text ∷ []) value said =
    let n = value_of text in
    number-short (is_number text) (nat_le 0 n && nat_le n 1000000000) n value (λ small. leb-true n 1000000000 (and_parts (nat_le 0 n) (nat_le n 1000000000) small).1) said
said-short (text ∷ second ∷ others) value said = absurd said

-- that of the words
order-short : (words : List (List ℕ)) (order : RunOrder) → command_of words ≡ Some (Run order) → IfSome order.until (λ e. e ≤ 1000000000)
order-short words order is =
    let says = (command_of-run words order).0 is in
    said-short (values_in Until says.items) order.until says.until

measure-short : (words : List (List ℕ)) (order : MeasureOrder) → command_of words ≡ Some (Measure order) → IfSome order.until (λ e. e ≤ 1000000000)
measure-short words order is =
    let says = (command_of-measure words order).0 is in
    said-short (values_in Until says.run.items) order.until says.run.until

until-short : (until : Option ℕ) (epochs : ℕ) → IfSome until (λ e. e ≤ 1000000000) → epochs ≤ 1000000000 → unwrap_or until epochs ≤ 1000000000
until-short None epochs said file = file
until-short (Some e) epochs said file = said

-- ---- what a run begins with

-- the bytes of the store that are read are such a list, where it holds one
held-bytes : (role : Role) (found : Option (List ℕ)) (bytes : List ℕ) → IfSome found AreBytes → bytes_in role found ≡ Ok bytes → AreBytes bytes
held-bytes role found bytes are is = subst (λ (f : Option (List ℕ)). IfSome f AreBytes) (held-is role found bytes is) are

encoded-in-time : (planned : Planned) (until : ℕ) (bytes : List ℕ) (from : Beginning) → IsEncodingOf planned until bytes from → reached_by from ≤ until
encoded-in-time planned until bytes (Level start) are = are.1
encoded-in-time planned until bytes (Uneven stand) are = are.1

begins : (name : Option (List ℕ)) (planned : Planned) (until : ℕ) (files : Files) (from : Beginning) → IsLawfulPlanned planned → ResumesBytes name (Some files)
    → beginning_at name planned until files ≡ Ok from → IsBeginning planned from × (reached_by from ≤ until)
unfolding read_at
begins None planned until files from lawful bytes is =
    let same = same-ok (opened_by planned) from is in
    let first : reached_by (opened_by planned) ≡ 0 = refl in
    (inl (sym same), omega (arith, first, ap reached_by same))
begins (Some name) planned until files from lawful bytes is =
    let read = stepped (bytes_at roles.Checkpoint name files) (λ bytes. told_as refused.Checkpoint (resumed_by planned until bytes)) from is in
    let are = held-bytes roles.Checkpoint (finmap.get files name) read.0 bytes read.1 in
    let given = told-ok refused.Checkpoint (resumed_by planned until read.0) from read.2 in
    (inr (until, read.0, are, given), encoded-in-time planned until read.0 from (accepted planned until read.0 from lawful.plan lawful.orders are given))

-- several banks
banks-begin : (name : Option (List ℕ)) (planned : PlannedBanks) (until : ℕ) (files : Files) (starts : List (ℕ → Sample)) → AreLawfulBanks planned → ResumesBytes name (Some files)
    → banks_beginning_at name planned until files ≡ Ok starts → AreBeginnings planned starts × (starts_at starts ≤ until)
unfolding read_at
banks-begin None planned until files starts lawful bytes is =
    let same = same-ok (banks_opened_by planned) starts is in
    let first = first-at 0 planned.plans (banks_opened_by planned) (omega (arith, lawful.plans.several)) (opened-at 0 planned.plans planned.orders.start) in
    (inl (sym same), omega (arith, first, ap starts_at same))
banks-begin (Some name) planned until files starts lawful bytes is =
    let read = stepped (bytes_at roles.Checkpoint name files) (λ bytes. told_as refused.Checkpoint (banks_resumed_by planned until bytes)) starts is in
    let are = held-bytes roles.Checkpoint (finmap.get files name) read.0 bytes read.1 in
    let e = accepted-banks planned until read.0 starts lawful.plans are (told-ok refused.Checkpoint (banks_resumed_by planned until read.0) starts read.2) in
    let first = first-at e.epoch planned.plans starts (omega (arith, lawful.plans.several)) (banks-at e.epoch planned.plans starts e.states_are) in
    (inr (e.epoch, e.states_are), omega (arith, first, e.in_time))

-- one bank or several, at one epoch
level-begin : (name : Option (List ℕ)) (planned : PlannedBanks) (until : ℕ) (files : Files) (starts : List (ℕ → Sample)) → AreLawfulBanked planned → ResumesBytes name (Some files)
    → level_beginning_at name planned until files ≡ Ok starts → AreBeginnings planned starts × (starts_at starts ≤ until)
unfolding read_at
level-begin None planned until files starts lawful bytes is =
    let same = same-ok (banks_opened_by planned) starts is in
    let first = first-at 0 planned.plans (banks_opened_by planned) (some-plans planned lawful) (opened-at 0 planned.plans planned.orders.start) in
    (inl (sym same), omega (arith, first, ap starts_at same))
level-begin (Some name) planned until files starts lawful bytes is =
    let read = stepped (bytes_at roles.Checkpoint name files) (λ bytes. told_as refused.Checkpoint (level_resumed_by planned until bytes)) starts is in
    let are = held-bytes roles.Checkpoint (finmap.get files name) read.0 bytes read.1 in
    let e = accepted-level planned until read.0 starts lawful are (told-ok refused.Checkpoint (level_resumed_by planned until read.0) starts read.2) in
    let first = first-at e.epoch planned.plans starts (some-plans planned lawful) (banks-at e.epoch planned.plans starts e.states_are) in
    (inr (e.epoch, e.states_are), omega (arith, first, e.in_time))

-- ---- a run

run-lawful : (order : RunOrder) (files : Files) (planned : Planned) (work : Work) → IfSome order.until (λ e. e ≤ 1000000000) → ResumesBytes order.from (Some files) → IsLawfulPlanned planned
    → run_from order planned files ≡ Ok work → IsLawfulWork work
unfolding run_work
run-lawful order files planned work said bytes lawful is =
    let e = until_of order planned.orders in
    let from = stepped (beginning_at order.from planned e files) (run_work order.stop_after planned e) work is in
    let asked : Work = RunWork planned from.0 e order.stop_after in
    let refusal = amount_refusal planned.plan planned.orders (begins_at from.0) e in
    let done = unless-ok refusal asked work (told-ok refused.Plan (unless refusal asked) work from.2) in
    let begun = begins order.from planned e files from.0 lawful bytes from.1 in
    let own : IsLawfulRun planned from.0 e = record {
      lawful = lawful;
      begins = begun.0;
      in_time = begun.1;
      short = until-short order.until planned.orders.epochs said lawful.orders.epochs;
      amount = sym done.0;
    } in
    subst IsLawfulWork done.1 own

banks-run-lawful : (order : RunOrder) (files : Files) (planned : PlannedBanks) (work : Work) → IfSome order.until (λ e. e ≤ 1000000000) → ResumesBytes order.from (Some files) → AreLawfulBanks planned
    → banks_from order planned files ≡ Ok work → IsLawfulWork work
unfolding banks_work
banks-run-lawful order files planned work said bytes lawful is =
    let e = until_of order planned.orders in
    let from = stepped (banks_beginning_at order.from planned e files) (banks_work planned e) work is in
    let asked : Work = BanksWork planned from.0 e in
    let refusal = banks_amount_refusal planned.plans planned.orders (starts_at from.0) e in
    let done = unless-ok refusal asked work (told-ok refused.Plan (unless refusal asked) work from.2) in
    let begun = banks-begin order.from planned e files from.0 lawful bytes from.1 in
    let own : IsLawfulRunOfBanks planned from.0 e = record {
      lawful = lawful;
      begins = begun.0;
      in_time = begun.1;
      short = until-short order.until planned.orders.epochs said lawful.orders.epochs;
      amount = sym done.0;
    } in
    subst IsLawfulWork done.1 own

by-plans : (order : RunOrder) (files : Files) (plans : Plans) (work : Work) → IfSome order.until (λ e. e ≤ 1000000000) → ResumesBytes order.from (Some files) → AreLawfulPlans plans
    → run_of order files plans ≡ Ok work → IsLawfulWork work
by-plans order files (One planned) work said bytes lawful is = run-lawful order files planned work said bytes lawful is
by-plans order files (Banks planned) work said bytes lawful is = banks-run-lawful order files planned work said bytes lawful is

-- a run that is measured
pub banked-read : (name : List ℕ) (files : Files) (planned : PlannedBanks) → banked_at name files ≡ Ok planned → AreLawfulBanked planned
unfolding banked_at
banked-read name files planned is =
    let p = stepped (plans_at true name files) (λ plans. Ok (banks_of plans)) planned is in
    subst AreLawfulBanked (same-ok (banks_of p.0) planned p.2) (banked-lawful p.0 (plans-lawful true name files p.0 p.1))

measure-lawful : (order : MeasureOrder) (files : Files) (planned : PlannedBanks) (work : Work) → IfSome order.until (λ e. e ≤ 1000000000) → ResumesBytes order.from (Some files) → AreLawfulBanked planned
    → measure_from order planned files ≡ Ok work → IsLawfulWork work
measure-lawful order files planned work said bytes lawful is =
    let e = measured_until order planned.orders in
    let starts = stepped (level_beginning_at order.from planned e files) (λ starts. Ok (MeasureWork planned starts e)) work is in
    let begun = level-begin order.from planned e files starts.0 lawful bytes starts.1 in
    let own : IsLawfulMeasuring planned starts.0 e = record {
      lawful = lawful;
      begins = begun.0;
      in_time = begun.1;
      short = until-short order.until planned.orders.epochs said lawful.orders.epochs;
    } in
    subst IsLawfulWork (same-ok (MeasureWork planned starts.0 e) work starts.2) own

-- ---- any command

if-done : (asked : Result Work Refusal) → ((work : Work) → asked ≡ Ok work → IsLawfulWork work) → IfOk asked IsLawfulWork
if-done (Ok work) lawful = lawful work refl
if-done (Err e) lawful = tt

lines-lawful : (order : LinesOrder) (files : Files) (saved : SavedState) → saved_at order files ≡ Ok saved → IsLawfulPlanned saved.planned
unfolding saved_at
lines-lawful order files saved is =
    let made : Planned → Stand → SavedState = λ planned base. record { planned = planned; base = base } in
    let p = stepped (plan_at order.run files) (λ planned. and_then (stand_at planned.plan order.checkpoint files) (λ base. Ok (made planned base))) saved is in
    let b = stepped (stand_at p.0.plan order.checkpoint files) (λ base. Ok (made p.0 base)) saved p.2 in
    subst (λ (s : SavedState). IsLawfulPlanned s.planned) (same-ok (made p.0 b.0) saved b.2) (one-lawful order.run files p.0 p.1)

crossed-states-lawful : (order : CrossOrder) (files : Files) (crossed : CrossedStates) → crossed_at order files ≡ Ok crossed → AreLawfulBanked crossed.planned
unfolding crossed_at crossed_after
crossed-states-lawful order files crossed is =
    let made : PlannedBanks → List Stand → List Stand → CrossedStates = λ planned first second. record { planned = planned; seed = order.seed; first = first; second = second } in
    let p = stepped (cross_plans_at order.run files) (λ planned. crossed_after order planned files) crossed is in
    let f = stepped (first_at p.0.plans order.first files) (λ first. and_then (second_at (seeded order.seed p.0.plans) order.second files) (λ second. Ok (made p.0 first second))) crossed p.2 in
    let s = stepped (second_at (seeded order.seed p.0.plans) order.second files) (λ second. Ok (made p.0 f.0 second)) crossed f.2 in
    subst (λ (c : CrossedStates). AreLawfulBanked c.planned) (same-ok (made p.0 f.0 s.0) crossed s.2) (crossed-lawful order.run files p.0 p.1)

asked-lawful : (words : List (List ℕ)) (command : Option Command) (held : Option Files) → command_of words ≡ command → ReadsBytes command held
    → IfSome (request_for command held) (λ asked. IfOk asked IsLawfulWork)
asked-lawful words None held is bytes = tt
asked-lawful words (Some (Plain order)) held is bytes = tt
asked-lawful words (Some (Check name)) None is bytes = tt
asked-lawful words (Some (Check name)) (Some files) is bytes =
    if-done (and_then (plans_at true name files) (λ plans. Ok (CheckWork plans)))
    (λ work made. let p = stepped (plans_at true name files) (λ plans. Ok (CheckWork plans)) work made in
    subst IsLawfulWork (same-ok (CheckWork p.0) work p.2) (plans-lawful true name files p.0 p.1))
asked-lawful words (Some (Run order)) None is bytes = tt
asked-lawful words (Some (Run order)) (Some files) is bytes =
    if-done (run_at order files)
    (λ work made. let p = stepped (plans_at (has_banks order.stop_after) order.run files) (run_of order files) work made in
    by-plans order files p.0 work (order-short words order is) bytes (plans-lawful (has_banks order.stop_after) order.run files p.0 p.1) p.2)
asked-lawful words (Some (Average order)) None is bytes = tt
asked-lawful words (Some (Average order)) (Some files) is bytes =
    if-done (and_then (averages_at order files) (λ averages. Ok (AverageWork averages)))
    (λ work made. let a = stepped (averages_at order files) (λ averages. Ok (AverageWork averages)) work made in
    subst IsLawfulWork (same-ok (AverageWork a.0) work a.2) tt)
asked-lawful words (Some (Demo n)) held is bytes = tt
asked-lawful words (Some (Lines order)) None is bytes = tt
asked-lawful words (Some (Lines order)) (Some files) is bytes =
    if-done (and_then (saved_at order files) (λ saved. Ok (LinesWork saved)))
    (λ work made. let s = stepped (saved_at order files) (λ saved. Ok (LinesWork saved)) work made in
    subst IsLawfulWork (same-ok (LinesWork s.0) work s.2) (lines-lawful order files s.0 s.1))
asked-lawful words (Some (Potts order)) held is bytes = tt
asked-lawful words (Some (Age order)) None is bytes = tt
asked-lawful words (Some (Age order)) (Some files) is bytes =
    if-done (and_then (plan_at order.run files) (λ planned. Ok (AgeWork planned order.wait order.times)))
    (λ work made. let p = stepped (plan_at order.run files) (λ planned. Ok (AgeWork planned order.wait order.times)) work made in
    subst IsLawfulWork (same-ok (AgeWork p.0 order.wait order.times) work p.2) (one-lawful order.run files p.0 p.1))
asked-lawful words (Some (Measure order)) None is bytes = tt
asked-lawful words (Some (Measure order)) (Some files) is bytes =
    if-done (measure_at order files)
    (λ work made. let p = stepped (banked_at order.run files) (λ planned. measure_from order planned files) work made in
    measure-lawful order files p.0 work (measure-short words order is) bytes (banked-read order.run files p.0 p.1) p.2)
asked-lawful words (Some (Cross order)) None is bytes = tt
asked-lawful words (Some (Cross order)) (Some files) is bytes =
    if-done (and_then (crossed_at order files) (λ crossed. Ok (CrossWork crossed)))
    (λ work made. let c = stepped (crossed_at order files) (λ crossed. Ok (CrossWork crossed)) work made in
    subst IsLawfulWork (same-ok (CrossWork c.0) work c.2) (crossed-states-lawful order files c.0 c.1))

-- whatever the words and the files are, where the checkpoint that is read has bytes
pub request-lawful : (words : List (List ℕ)) (held : Option Files) → ReadsBytes (command_of words) held → IfSome (request words held) (λ asked. IfOk asked IsLawfulWork)
request-lawful words held bytes = asked-lawful words (command_of words) held refl bytes
