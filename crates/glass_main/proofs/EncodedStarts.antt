-- What is asked for starts with the state whose encoding the named bytes are, or with the opening states.
use Rattle.std.proofs.Common.{◌≡◌, ◌≤◌, ℕ, length, arith, true, List, Option, Some, None, IfSome, Result, Ok, Err, refl, sym, subst}
use Rattle.std.specs.FinMap as finmap
use Rattle.std.specs.Prelude.{IfOk}
use Rattle.glass_edges.specs.Contents.{Files}
use Rattle.glass_edges.specs.Refusals.{unless}
use Rattle.glass_edges.proofs.FirstRefusals.{unless-ok}
use Rattle.plane_sweep.specs.declared.stand.Stand.{Stand}
use Rattle.run_checkpoint.specs.Decoding.{decoded}
use Rattle.run_checkpoint.specs.declared.refused.CheckpointRefused.{CheckpointRefused}
use Rattle.run_plan.specs.Amounts.{amount_refusal}
use Rattle.scalar_rule.specs.Plan.{Plan}
use Rattle.scalar_rule.specs.declared.sample.Sample.{Sample}
use Rattle.command_words.specs.CommandLine.{LinesOrder, Command, Plain, Check, Run, Average, Demo, Lines, Potts, Age, Measure, Cross}
use Rattle.command_words.specs.MeasureWords.{MeasureOrder}
use Rattle.command_words.specs.CrossWords.{CrossOrder}
use Rattle.command_words.specs.RunWords.{RunOrder}
use Rattle.glass_main.specs.Beginnings.{Beginning, opened_by, begins_at, resumed_by}
use Rattle.glass_main.specs.CheckpointBytes.{AreBytes, HasBytes, ResumesBytes, ReadsBytes}
use Rattle.glass_main.specs.LawfulRequests.{IsLawfulPlanned, AreLawfulBanks, AreLawfulPlans, AreLawfulBanked}
use Rattle.glass_main.specs.MeasureRun.{level_resumed_by}
use Rattle.glass_main.specs.ManyBanks.{PlannedBanks, banks_opened_by, banks_resumed_by, starts_at, banks_amount_refusal}
use Rattle.glass_main.specs.NamedStarts.{StartsBy, Starts, SecondBy, Seconds}
use Rattle.glass_main.specs.Request.{Work, CheckWork, RunWork, BanksWork, AverageWork, LinesWork, PottsWork, DemoWork, PlainWork, AgeWork, MeasureWork, banked_at, level_beginning_at, measured_until, measure_from, measure_at, CrossWork, cross_plans_at, first_at, second_at, crossed_after, crossed_at, and_then, told_as, bytes_at, plan_at, plans_at, read_at, beginning_at, banks_beginning_at, run_work, banks_work, until_of, run_from, banks_from, run_of, run_at, has_banks, averages_at, stand_at, saved_at}
use Rattle.glass_main.specs.CrossedPlans.{HasLawfulSeed}
use Rattle.glass_main.specs.CrossRun.{CrossedStates, seeded, states_decoded, AreStatesOf}
use Rattle.glass_main.specs.declared.planned.Planned.{Planned}
use Rattle.glass_main.specs.declared.plans.Plans.{Plans}
use Rattle.glass_main.specs.declared.plans.Plans.TheVariants.{One, Banks}
use Rattle.glass_main.specs.declared.saved_state.SavedState.{SavedState}
use Rattle.glass_main.specs.declared.role.Role.TheVariants as roles
use Rattle.glass_main.specs.declared.refusal.Refusal.{Refusal}
use Rattle.glass_main.specs.declared.refusal.Refusal.TheVariants as refused
use Rattle.glass_main.proofs.LawfulPlans.{told-ok, one-lawful, plans-lawful, crossed-lawful}
use Rattle.glass_main.proofs.LawfulRequests.{banked-read}
use Rattle.glass_main.proofs.LevelStarts.{accepted-level}
use Rattle.glass_main.proofs.OneOfBanks.{stepped, same-ok}
use Rattle.glass_main.proofs.ReadBytes.{held-is, ok-free}
use Rattle.glass_main.proofs.ReadRuns.{accepted-banks}
use Rattle.glass_main.proofs.ReadStops.{accepted}
use Rattle.glass_main.proofs.SavedStates.{read-encoded}
use Rattle.glass_main.proofs.CrossedStates.{states-encoded, seeded-lawful, seeded-length}

-- the bytes that the files have under a name, which are read as this
named-bytes : {A : Type 0} (read : List ℕ → Result A CheckpointRefused) (name : List ℕ) (files : Files) (x : A) → HasBytes (Some files) name → read_at read name files ≡ Ok x
    → (bytes : List ℕ) × (finmap.get files name ≡ Some bytes) × AreBytes bytes × (read bytes ≡ Ok x)
unfolding read_at
named-bytes read name files x are is =
    let found = stepped (bytes_at roles.Checkpoint name files) (λ bytes. told_as refused.Checkpoint (read bytes)) x is in
    let held = held-is roles.Checkpoint (finmap.get files name) found.0 found.1 in
    (found.0, held, subst (λ (f : Option (List ℕ)). IfSome f AreBytes) held are, told-ok refused.Checkpoint (read found.0) x found.2)

-- ---- runs

one-starts : (name : Option (List ℕ)) (planned : Planned) (until : ℕ) (stop_after : Option ℕ) (files : Files) (from : Beginning) → ResumesBytes name (Some files) → IsLawfulPlanned planned
    → beginning_at name planned until files ≡ Ok from → StartsBy name files (RunWork planned from until stop_after)
one-starts None planned until stop_after files from bytes lawful is = sym (same-ok (opened_by planned) from is)
one-starts (Some name) planned until stop_after files from bytes lawful is =
    let named = named-bytes (resumed_by planned until) name files from bytes is in
    (named.0, named.1, accepted planned until named.0 from lawful.plan lawful.orders named.2 named.3)

banks-start : (name : Option (List ℕ)) (planned : PlannedBanks) (until : ℕ) (files : Files) (starts : List (ℕ → Sample)) → ResumesBytes name (Some files) → AreLawfulBanks planned
    → banks_beginning_at name planned until files ≡ Ok starts → StartsBy name files (BanksWork planned starts until)
banks-start None planned until files starts bytes lawful is = sym (same-ok (banks_opened_by planned) starts is)
banks-start (Some name) planned until files starts bytes lawful is =
    let named = named-bytes (banks_resumed_by planned until) name files starts bytes is in
    (named.0, named.1, accepted-banks planned until named.0 starts lawful.plans named.2 named.3)

run-starts : (order : RunOrder) (files : Files) (planned : Planned) (work : Work) → ResumesBytes order.from (Some files) → IsLawfulPlanned planned → run_from order planned files ≡ Ok work
    → StartsBy order.from files work
unfolding run_work
run-starts order files planned work bytes lawful is =
    let e = until_of order planned.orders in
    let from = stepped (beginning_at order.from planned e files) (run_work order.stop_after planned e) work is in
    let asked : Work = RunWork planned from.0 e order.stop_after in
    let refusal = amount_refusal planned.plan planned.orders (begins_at from.0) e in
    let done = unless-ok refusal asked work (told-ok refused.Plan (unless refusal asked) work from.2) in
    subst (StartsBy order.from files) done.1 (one-starts order.from planned e order.stop_after files from.0 bytes lawful from.1)

banks-run-starts : (order : RunOrder) (files : Files) (planned : PlannedBanks) (work : Work) → ResumesBytes order.from (Some files) → AreLawfulBanks planned → banks_from order planned files ≡ Ok work
    → StartsBy order.from files work
unfolding banks_work
banks-run-starts order files planned work bytes lawful is =
    let e = until_of order planned.orders in
    let from = stepped (banks_beginning_at order.from planned e files) (banks_work planned e) work is in
    let asked : Work = BanksWork planned from.0 e in
    let refusal = banks_amount_refusal planned.plans planned.orders (starts_at from.0) e in
    let done = unless-ok refusal asked work (told-ok refused.Plan (unless refusal asked) work from.2) in
    subst (StartsBy order.from files) done.1 (banks-start order.from planned e files from.0 bytes lawful from.1)

by-plans : (order : RunOrder) (files : Files) (plans : Plans) (work : Work) → ResumesBytes order.from (Some files) → AreLawfulPlans plans → run_of order files plans ≡ Ok work → StartsBy order.from files work
by-plans order files (One planned) work bytes lawful is = run-starts order files planned work bytes lawful is
by-plans order files (Banks planned) work bytes lawful is = banks-run-starts order files planned work bytes lawful is

-- ---- runs that are measured

level-start : (name : Option (List ℕ)) (planned : PlannedBanks) (until : ℕ) (files : Files) (starts : List (ℕ → Sample)) → ResumesBytes name (Some files) → AreLawfulBanked planned
    → level_beginning_at name planned until files ≡ Ok starts → StartsBy name files (MeasureWork planned starts until)
level-start None planned until files starts bytes lawful is = sym (same-ok (banks_opened_by planned) starts is)
level-start (Some name) planned until files starts bytes lawful is =
    let named = named-bytes (level_resumed_by planned until) name files starts bytes is in
    (named.0, named.1, accepted-level planned until named.0 starts lawful named.2 named.3)

measure-starts : (order : MeasureOrder) (files : Files) (planned : PlannedBanks) (work : Work) → ResumesBytes order.from (Some files) → AreLawfulBanked planned
    → measure_from order planned files ≡ Ok work → StartsBy order.from files work
measure-starts order files planned work bytes lawful is =
    let e = measured_until order planned.orders in
    let starts = stepped (level_beginning_at order.from planned e files) (λ starts. Ok (MeasureWork planned starts e)) work is in
    subst (StartsBy order.from files) (same-ok (MeasureWork planned starts.0 e) work starts.2) (level-start order.from planned e files starts.0 bytes lawful starts.1)

-- ---- two states

-- samples are kept in one bank at least
some-plans : (planned : PlannedBanks) → AreLawfulBanked planned → 1 ≤ length planned.plans
some-plans planned lawful = omega (arith, lawful.count, lawful.orders.some_samples)

-- the plans, and both states
record AreFound (order : CrossOrder) (files : Files) (crossed : CrossedStates) : Type 0 where
  plans : cross_plans_at order.run files ≡ Ok crossed.planned
  first : first_at crossed.planned.plans order.first files ≡ Ok crossed.first
  seed_is : crossed.seed ≡ order.seed
  second : second_at (seeded crossed.seed crossed.planned.plans) order.second files ≡ Ok crossed.second

found-states : (order : CrossOrder) (files : Files) (crossed : CrossedStates) → crossed_at order files ≡ Ok crossed → AreFound order files crossed
unfolding crossed_at crossed_after
found-states order files crossed is =
    let made : PlannedBanks → List Stand → List Stand → CrossedStates = λ planned first second. record { planned = planned; seed = order.seed; first = first; second = second } in
    let p = stepped (cross_plans_at order.run files) (λ planned. crossed_after order planned files) crossed is in
    let f = stepped (first_at p.0.plans order.first files) (λ first. and_then (second_at (seeded order.seed p.0.plans) order.second files) (λ second. Ok (made p.0 first second))) crossed p.2 in
    let s = stepped (second_at (seeded order.seed p.0.plans) order.second files) (λ second. Ok (made p.0 f.0 second)) crossed f.2 in
    let own : AreFound order files (made p.0 f.0 s.0) = record { plans = p.1; first = f.1; seed_is = refl; second = s.1 } in
    subst (AreFound order files) (same-ok (made p.0 f.0 s.0) crossed s.2) own

-- the bytes of the first checkpoint, and of the second
first-bytes : (plans : List Plan) (name : List ℕ) (files : Files) (states : List Stand) → HasBytes (Some files) name → first_at plans name files ≡ Ok states
    → (bytes : List ℕ) × (finmap.get files name ≡ Some bytes) × AreBytes bytes × (states_decoded plans bytes ≡ Ok states)
unfolding first_at
first-bytes plans name files states are is =
    let found = stepped (bytes_at roles.Checkpoint name files) (λ bytes. told_as refused.Checkpoint (states_decoded plans bytes)) states is in
    let held = held-is roles.Checkpoint (finmap.get files name) found.0 found.1 in
    (found.0, held, subst (λ (f : Option (List ℕ)). IfSome f AreBytes) held are, told-ok refused.Checkpoint (states_decoded plans found.0) states found.2)

second-bytes : (plans : List Plan) (name : List ℕ) (files : Files) (states : List Stand) → HasBytes (Some files) name → second_at plans name files ≡ Ok states
    → (bytes : List ℕ) × (finmap.get files name ≡ Some bytes) × AreBytes bytes × (states_decoded plans bytes ≡ Ok states)
unfolding second_at
second-bytes plans name files states are is =
    let found = stepped (bytes_at roles.SecondCheckpoint name files) (λ bytes. told_as refused.SecondCheckpoint (states_decoded plans bytes)) states is in
    let held = held-is roles.SecondCheckpoint (finmap.get files name) found.0 found.1 in
    (found.0, held, subst (λ (f : Option (List ℕ)). IfSome f AreBytes) held are, told-ok refused.SecondCheckpoint (states_decoded plans found.0) states found.2)

first-starts : (order : CrossOrder) (files : Files) (crossed : CrossedStates) → HasBytes (Some files) order.first → crossed_at order files ≡ Ok crossed
    → StartsBy (Some order.first) files (CrossWork crossed)
first-starts order files crossed bytes is =
    let found = found-states order files crossed is in
    let named = first-bytes crossed.planned.plans order.first files crossed.first bytes found.first in
    let lawful = crossed-lawful order.run files crossed.planned found.plans in
    (named.0, named.1, states-encoded crossed.planned.plans named.0 crossed.first (some-plans crossed.planned lawful) lawful.plans named.2 named.3)

second-starts : (order : CrossOrder) (files : Files) (crossed : CrossedStates) → order.seed ≤ 9223372036854775807 → HasBytes (Some files) order.second → crossed_at order files ≡ Ok crossed
    → SecondBy (Some order.second) files (CrossWork crossed)
second-starts order files crossed small bytes is =
    let found = found-states order files crossed is in
    let plans = seeded crossed.seed crossed.planned.plans in
    let named = second-bytes plans order.second files crossed.second bytes found.second in
    let lawful = crossed-lawful order.run files crossed.planned found.plans in
    let some : 1 ≤ length plans = omega (arith, some-plans crossed.planned lawful, seeded-length crossed.seed crossed.planned.plans) in (
      named.0,
      named.1,
      states-encoded plans named.0 crossed.second some
          (seeded-lawful crossed.seed crossed.planned.plans (subst (λ (n : ℕ). n ≤ 9223372036854775807) (sym found.seed_is) small) lawful.plans) named.2 named.3,
    )

-- ---- any command

lines-start : (order : LinesOrder) (files : Files) (saved : SavedState) → HasBytes (Some files) order.checkpoint → saved_at order files ≡ Ok saved
    → StartsBy (Some order.checkpoint) files (LinesWork saved)
unfolding saved_at stand_at read_at
lines-start order files saved bytes is =
    let made : Planned → Stand → SavedState = λ planned base. record { planned = planned; base = base } in
    let p = stepped (plan_at order.run files) (λ planned. and_then (stand_at planned.plan order.checkpoint files) (λ base. Ok (made planned base))) saved is in
    let b = stepped (stand_at p.0.plan order.checkpoint files) (λ base. Ok (made p.0 base)) saved p.2 in
    let named = named-bytes (decoded p.0.plan 1000000000) order.checkpoint files b.0 bytes b.1 in
    let lawful = one-lawful order.run files p.0 p.1 in
    subst (λ (s : SavedState). StartsBy (Some order.checkpoint) files (LinesWork s)) (same-ok (made p.0 b.0) saved b.2)
    (named.0, named.1, read-encoded p.0.plan named.0 b.0 lawful.plan named.2 named.3)

if-done : (P : Work → Type 0) (asked : Result Work Refusal) → ((work : Work) → asked ≡ Ok work → P work) → IfOk asked P
if-done P (Ok work) each = each work refl
if-done P (Err e) each = tt

asked-starts : (files : Files) (command : Option Command) → ReadsBytes command (Some files) → Starts command (Some files)
asked-starts files None bytes = tt
asked-starts files (Some (Plain order)) bytes = tt
asked-starts files (Some (Check name)) bytes =
    if-done (StartsBy None files) (and_then (plans_at true name files) (λ plans. Ok (CheckWork plans)))
    (λ work made. let p = stepped (plans_at true name files) (λ plans. Ok (CheckWork plans)) work made in subst (StartsBy None files) (same-ok (CheckWork p.0) work p.2) tt)
asked-starts files (Some (Run order)) bytes =
    if-done (StartsBy order.from files) (run_at order files)
    (λ work made. let p = stepped (plans_at (has_banks order.stop_after) order.run files) (run_of order files) work made in
    by-plans order files p.0 work bytes (plans-lawful (has_banks order.stop_after) order.run files p.0 p.1) p.2)
asked-starts files (Some (Average order)) bytes =
    if-done (StartsBy None files) (and_then (averages_at order files) (λ averages. Ok (AverageWork averages)))
    (λ work made. let a = stepped (averages_at order files) (λ averages. Ok (AverageWork averages)) work made in subst (StartsBy None files) (same-ok (AverageWork a.0) work a.2) tt)
asked-starts files (Some (Demo n)) bytes = tt
asked-starts files (Some (Lines order)) bytes =
    if-done (StartsBy (Some order.checkpoint) files) (and_then (saved_at order files) (λ saved. Ok (LinesWork saved)))
    (λ work made. let s = stepped (saved_at order files) (λ saved. Ok (LinesWork saved)) work made in
    subst (StartsBy (Some order.checkpoint) files) (same-ok (LinesWork s.0) work s.2) (lines-start order files s.0 bytes s.1))
asked-starts files (Some (Potts order)) bytes = tt
asked-starts files (Some (Age order)) bytes =
    if-done (StartsBy None files) (and_then (plan_at order.run files) (λ planned. Ok (AgeWork planned order.wait order.times)))
    (λ work made. let p = stepped (plan_at order.run files) (λ planned. Ok (AgeWork planned order.wait order.times)) work made in
    subst (StartsBy None files) (same-ok (AgeWork p.0 order.wait order.times) work p.2) tt)
asked-starts files (Some (Measure order)) bytes =
    if-done (StartsBy order.from files) (measure_at order files)
    (λ work made. let p = stepped (banked_at order.run files) (λ planned. measure_from order planned files) work made in
    measure-starts order files p.0 work bytes (banked-read order.run files p.0 p.1) p.2)
asked-starts files (Some (Cross order)) bytes =
    if-done (StartsBy (Some order.first) files) (and_then (crossed_at order files) (λ crossed. Ok (CrossWork crossed)))
    (λ work made. let s = stepped (crossed_at order files) (λ crossed. Ok (CrossWork crossed)) work made in
    subst (StartsBy (Some order.first) files) (same-ok (CrossWork s.0) work s.2) (first-starts order files s.0 bytes.0 s.1))

-- whatever the command and the files are, where the checkpoint that is read has bytes
pub request-starts : (command : Option Command) (held : Option Files) → ReadsBytes command held → Starts command held
request-starts command None bytes = tt
request-starts command (Some files) bytes = asked-starts files command bytes

asked-seconds : (files : Files) (command : Option Command) → HasLawfulSeed command → ReadsBytes command (Some files) → Seconds command (Some files)
asked-seconds files None small bytes = tt
asked-seconds files (Some (Plain order)) small bytes = tt
asked-seconds files (Some (Check name)) small bytes = ok-free (and_then (plans_at true name files) (λ plans. Ok (CheckWork plans))) (Unit {0}) tt
asked-seconds files (Some (Run order)) small bytes = ok-free (run_at order files) (Unit {0}) tt
asked-seconds files (Some (Average order)) small bytes = ok-free (and_then (averages_at order files) (λ averages. Ok (AverageWork averages))) (Unit {0}) tt
asked-seconds files (Some (Demo n)) small bytes = tt
asked-seconds files (Some (Lines order)) small bytes = ok-free (and_then (saved_at order files) (λ saved. Ok (LinesWork saved))) (Unit {0}) tt
asked-seconds files (Some (Potts order)) small bytes = tt
asked-seconds files (Some (Age order)) small bytes = ok-free (and_then (plan_at order.run files) (λ planned. Ok (AgeWork planned order.wait order.times))) (Unit {0}) tt
asked-seconds files (Some (Measure order)) small bytes = ok-free (measure_at order files) (Unit {0}) tt
asked-seconds files (Some (Cross order)) small bytes =
    if-done (SecondBy (Some order.second) files) (and_then (crossed_at order files) (λ crossed. Ok (CrossWork crossed)))
    (λ work made. let s = stepped (crossed_at order files) (λ crossed. Ok (CrossWork crossed)) work made in
    subst (SecondBy (Some order.second) files) (same-ok (CrossWork s.0) work s.2) (second-starts order files s.0 small bytes.1 s.1))

-- and the second state of two
pub request-seconds : (command : Option Command) (held : Option Files) → HasLawfulSeed command → ReadsBytes command held → Seconds command held
request-seconds command None small bytes = tt
request-seconds command (Some files) small bytes = asked-seconds files command small bytes
