-- What a command asks for, over the files that the store holds: work, or the first refusal on the way to it.
use Rattle.std.specs.Prelude.{ℕ, Bool, true, false, nat_le, if◌then◌else◌, List, [], length, Option, Some, None, option_map, unwrap_or, Result, Ok, Err}
use Rattle.std.specs.FinMap as finmap
use Rattle.glass_edges.specs.Contents.{Files}
use Rattle.glass_edges.specs.Refusals.{unless}
use Rattle.threshold_table.specs.Tables.{RuleView, rule_table, swap_table}
use Rattle.spin_model.specs.Couplings.{Bonds, plus, random}
use Rattle.spin_model.specs.Limits.{last_epoch}
use Rattle.coupling_set.specs.BondsAsWords.{couplings_with}
use Rattle.coupling_set.specs.CouplingWords.{CouplingsView}
use Rattle.coupling_set.specs.CouplingsFile.{couplings_in, file_refusal, of_file}
use Rattle.coupling_set.specs.declared.refused.CouplingsRefused.{CouplingsRefused}
use Rattle.run_plan.specs.declared.run_file.Orders.{Orders}
use Rattle.run_plan.specs.declared.run_file.RunFile.{RunFile}
use Rattle.run_plan.specs.RunFile.{run_file}
use Rattle.run_plan.specs.Banks.{banks_refusal}
use Rattle.run_plan.specs.declared.refused.PlanRefused.{PlanRefused}
use Rattle.run_plan.specs.Amounts.{amount_refusal}
use Rattle.run_plan.specs.declared.run_file.CouplingSource.{CouplingSource}
use Rattle.run_plan.specs.declared.run_file.CouplingSource.TheVariants as sources
use Rattle.run_plan.specs.PlanOf.{plan_with}
use Rattle.run_checkpoint.specs.BankEncoding.{AreBanks}
use Rattle.run_checkpoint.specs.Decoding.{decoded}
use Rattle.run_checkpoint.specs.Lengths.{longest_checkpoint}
use Rattle.run_checkpoint.specs.declared.refused.CheckpointRefused.{CheckpointRefused}
use Rattle.plane_sweep.specs.declared.stand.Stand.{Stand}
use Rattle.scalar_rule.specs.Plan.{Plan}
use Rattle.scalar_rule.specs.declared.sample.Sample.{Sample}
use Rattle.sample_average.specs.Averages.{AveragesView, averages_text}
use Rattle.sample_average.specs.ReadReport.{averages_in, most_report_bytes}
use Rattle.command_words.specs.RunWords.{RunOrder}
use Rattle.command_words.specs.MeasureWords.{MeasureOrder, run_to_measure}
use Rattle.command_words.specs.CommandLine.{PlainOrder, AverageOrder, LinesOrder, Command, Plain, Check, Run, Average, Demo, Lines, Potts, Age, Measure, Cross, command_of}
use Rattle.command_words.specs.CrossWords.{CrossOrder}
use Rattle.glass_main.specs.PottsRun.{potts_report}
use Rattle.command_words.specs.PottsWords.{PottsOrder}
use Rattle.glass_main.specs.AgeRun.{age_text}
use Rattle.glass_main.specs.Beginnings.{Beginning, opened_by, resumed_by, begins_at}
use Rattle.glass_main.specs.ManyBanks.{PlannedBanks, bank_count, bank_plans, banks_opened_by, banks_resumed_by, starts_at, banks_amount_refusal, banks_text, banks_at, banks_bytes}
use Rattle.glass_main.specs.MeasureRun.{banks_of, level_resumed_by, measured_text, measured_bytes}
use Rattle.glass_main.specs.CrossRun.{CrossedStates, crossed_text, seeded, states_decoded}
use Rattle.glass_main.specs.Stops.{RunGives}
use Rattle.glass_main.specs.Texts.{plain_text, check_text, demo_text, saved_text}
use Rattle.glass_main.specs.declared.planned.Planned.{Planned}
use Rattle.glass_main.specs.declared.plans.Plans.{Plans}
use Rattle.glass_main.specs.declared.plans.Plans.TheVariants.{One, Banks}
use Rattle.glass_main.specs.declared.saved_state.SavedState.{SavedState}
use Rattle.glass_main.specs.declared.role.Role.{Role}
use Rattle.glass_main.specs.declared.role.Role.TheVariants as roles
use Rattle.glass_main.specs.declared.refusal.Refusal.{Refusal}
use Rattle.glass_main.specs.declared.refusal.Refusal.TheVariants as refused

-- ---- work

-- what is to be done where nothing refuses it
pub data Work : Type 0 where
  PlainWork : PlainOrder → Work
  CheckWork : Plans → Work
  RunWork : Planned → Beginning → ℕ → Option ℕ → Work
  BanksWork : PlannedBanks → List (ℕ → Sample) → ℕ → Work
  AverageWork : AveragesView → Work
  DemoWork : ℕ → Work
  LinesWork : SavedState → Work
  PottsWork : PottsOrder → Work
  AgeWork : Planned → ℕ → List ℕ → Work
  MeasureWork : PlannedBanks → List (ℕ → Sample) → ℕ → Work
  CrossWork : CrossedStates → Work

-- what holds of the text that the work prints, and of the checkpoint that it saves where it is asked to; the states of a run's
-- checkpoint fit, so that a run which goes on from it has them
abbrev pub Gives : Work → (List ℕ → List ℕ → Type 0) → Type 0
Gives (PlainWork order) P = P (plain_text order) []
Gives (CheckWork plans) P = P (check_text plans) []
Gives (RunWork planned from until stop_after) P = RunGives stop_after planned from until P
Gives (BanksWork planned starts until) P =
    AreBanks until planned.plans (banks_at planned.plans starts until) × P (banks_text planned starts until) (banks_bytes planned starts until)
Gives (AverageWork averages) P = P (averages_text averages) []
Gives (DemoWork n) P = P (demo_text n) []
Gives (LinesWork saved) P = P (saved_text saved) []
Gives (PottsWork order) P = P (potts_report order) []
Gives (AgeWork planned wait times) P = P (age_text planned wait times) []
Gives (MeasureWork planned starts until) P =
    AreBanks until planned.plans (banks_at planned.plans starts until) × P (measured_text planned starts until) (measured_bytes planned starts until)
Gives (CrossWork crossed) P = P (crossed_text crossed) []

-- ---- steps

-- a step and then the next, unless the step refuses
abbrev pub and_then : {A B : Type 0} → Result A Refusal → (A → Result B Refusal) → Result B Refusal
and_then (Ok x) next = next x
and_then (Err refusal) next = Err refusal

-- what a reader of a file gives, its refusal told as the file's
abbrev pub told_as : {A E : Type 0} → (E → Refusal) → Result A E → Result A Refusal
told_as tell (Ok x) = Ok x
told_as tell (Err e) = Err (tell e)

-- a step that doesn't refuse
abbrev pub IsAccepted : {A : Type 0} → Result A Refusal → Type 0
IsAccepted (Ok x) = Unit {0}
IsAccepted (Err refusal) = ⊥

-- the most bytes of a file that is read as this
abbrev pub limit_of : Role → ℕ
limit_of roles.RunFile = 1048576
limit_of roles.RuleTable = 65536
limit_of roles.SwapTable = 4194304
limit_of roles.Couplings = 25165872
limit_of roles.Checkpoint = longest_checkpoint
limit_of roles.Report = most_report_bytes
limit_of roles.SecondCheckpoint = longest_checkpoint

-- the bytes of a file, unless the name isn't held or they are too many
abbrev pub bytes_in : Role → Option (List ℕ) → Result (List ℕ) Refusal
bytes_in role None = Err (refused.Absent role)
bytes_in role (Some bytes) = if nat_le (length bytes) (limit_of role) then Ok bytes else Err (refused.TooLong role (length bytes))

abbrev pub bytes_at : Role → List ℕ → Files → Result (List ℕ) Refusal
bytes_at role name files = bytes_in role (finmap.get files name)

-- a run file whose samples a command can run, that runs many banks of 64 or but one
abbrev pub banked : Bool → Result RunFile PlanRefused → Result RunFile PlanRefused
banked many (Ok file) = unless (banks_refusal file.orders many) file
banked many (Err refusal) = Err refusal

-- the run file of a name, for such a command
unfoldable pub run_file_at : Bool → List ℕ → Files → Result RunFile Refusal
run_file_at many name files = and_then (bytes_at roles.RunFile name files) (λ bytes. told_as refused.Plan (banked many (run_file bytes)))

-- the rule table that a run file names
unfoldable pub rules_at : RunFile → Files → Result RuleView Refusal
rules_at file files = and_then (bytes_at roles.RuleTable file.rules files) (λ bytes. told_as refused.Rules (rule_table file.kind bytes))

-- the swap table that it names, for as many slots as the rule table has
unfoldable pub swaps_at : RunFile → RuleView → Files → Result (List (List ℕ)) Refusal
swaps_at file rules files =
    and_then (bytes_at roles.SwapTable file.swaps files) (λ bytes. told_as refused.Swaps (swap_table (length rules.rows) bytes))

-- the couplings of a file
abbrev pub couplings_file_at : ℕ → List ℕ → Files → Result CouplingsView Refusal
couplings_file_at size name files =
    and_then (bytes_at roles.Couplings name files) (λ bytes. told_as refused.Couplings (couplings_in size 0 bytes))

-- the couplings that a source gives: those of its kind, or of the couplings file that it names
unfoldable pub couplings_from : CouplingSource → ℕ → ℕ → Files → Result CouplingsView Refusal
couplings_from sources.Plus size seed files = Ok (couplings_with size plus)
couplings_from sources.Random size seed files = Ok (couplings_with size (random seed))
couplings_from (sources.File name) size seed files = couplings_file_at size name files

-- the couplings of a run file
abbrev pub couplings_at : RunFile → Files → Result CouplingsView Refusal
couplings_at file files = couplings_from file.couplings file.lattice file.seed files

-- both tables of a run file
abbrev pub tables_at : RunFile → Files → Result (List (List ℕ)) Refusal
tables_at file files = and_then (rules_at file files) (λ rules. swaps_at file rules files)

-- the plan of a run file whose rule table is read
unfoldable pub plan_after_rules : RunFile → RuleView → Files → Result Planned Refusal
plan_after_rules file rules files =
    and_then (swaps_at file rules files) (λ swaps.
    and_then (couplings_at file files) (λ couplings.
    Ok (record { plan = plan_with file rules swaps couplings; orders = file.orders })))

-- the plan and the orders of a run of one bank: the run file of a name, then its rule table, its swap table and its couplings
unfoldable pub plan_after_file : RunFile → Files → Result Planned Refusal
plan_after_file file files = and_then (rules_at file files) (λ rules. plan_after_rules file rules files)

unfoldable pub plan_at : List ℕ → Files → Result Planned Refusal
plan_at name files = and_then (run_file_at false name files) (λ file. plan_after_file file files)

-- ---- the plans of several banks

-- J of each sample: as the source says it, where it names a file by the bytes of that
unfoldable pub bonds_in : CouplingSource → ℕ → ℕ → List ℕ → Result (ℕ → Bonds) CouplingsRefused
bonds_in sources.Plus size seed bytes = Ok plus
bonds_in sources.Random size seed bytes = Ok (random seed)
bonds_in (sources.File name) size seed bytes = unless (file_refusal size bytes) (of_file size bytes)

-- the bytes of the couplings file, where the source names one
unfoldable pub stored_at : CouplingSource → Files → Result (List ℕ) Refusal
stored_at sources.Plus files = Ok []
stored_at sources.Random files = Ok []
stored_at (sources.File name) files = bytes_at roles.Couplings name files

-- the plan of each bank, with the couplings of its 64 samples; both tables are those of all
abbrev pub banks_by : RunFile → RuleView → List (List ℕ) → Result (ℕ → Bonds) CouplingsRefused → Result PlannedBanks CouplingsRefused
banks_by file rules swaps (Ok bonds) = Ok (record {
  plans = bank_plans (λ couplings. plan_with file rules swaps couplings) file.lattice (bank_count file.orders.samples) bonds;
  orders = file.orders;
})
banks_by file rules swaps (Err e) = Err e

-- of a run file whose tables are read
unfoldable pub banks_after_tables : RunFile → RuleView → List (List ℕ) → Files → Result PlannedBanks Refusal
banks_after_tables file rules swaps files =
    and_then (stored_at file.couplings files) (λ bytes.
    told_as refused.Couplings (banks_by file rules swaps (bonds_in file.couplings file.lattice file.seed bytes)))

-- the steps are those of one bank
unfoldable pub banks_after_rules : RunFile → RuleView → Files → Result PlannedBanks Refusal
banks_after_rules file rules files = and_then (swaps_at file rules files) (λ swaps. banks_after_tables file rules swaps files)

unfoldable pub banks_after_file : RunFile → Files → Result PlannedBanks Refusal
banks_after_file file files = and_then (rules_at file files) (λ rules. banks_after_rules file rules files)

-- of a run file with up to 64 samples the one plan, of one with more those of the banks
unfoldable pub plans_after_file : RunFile → Files → Result Plans Refusal
plans_after_file file files =
    if nat_le file.orders.samples 64 then and_then (plan_after_file file files) (λ planned. Ok (One planned))
    else and_then (banks_after_file file files) (λ planned. Ok (Banks planned))

-- what the files of a run say, for a command that runs many banks or but one
unfoldable pub plans_at : Bool → List ℕ → Files → Result Plans Refusal
plans_at many name files = and_then (run_file_at many name files) (λ file. plans_after_file file files)

-- those of all banks as a list, also where there is but one
unfoldable pub banked_at : List ℕ → Files → Result PlannedBanks Refusal
banked_at name files = and_then (plans_at true name files) (λ plans. Ok (banks_of plans))

-- ---- what a run starts from

-- what the checkpoint of a name is read as
unfoldable pub read_at : {A : Type 0} → (List ℕ → Result A CheckpointRefused) → List ℕ → Files → Result A Refusal
read_at read name files = and_then (bytes_at roles.Checkpoint name files) (λ bytes. told_as refused.Checkpoint (read bytes))

-- the states of the checkpoint of a name, where one is named; else the opening states
abbrev pub checkpoint_at : Planned → ℕ → List ℕ → Files → Result Beginning Refusal
checkpoint_at planned until name files = read_at (resumed_by planned until) name files

abbrev pub beginning_at : Option (List ℕ) → Planned → ℕ → Files → Result Beginning Refusal
beginning_at None planned until files = Ok (opened_by planned)
beginning_at (Some name) planned until files = checkpoint_at planned until name files

-- those of all banks
abbrev pub banks_checkpoint_at : PlannedBanks → ℕ → List ℕ → Files → Result (List (ℕ → Sample)) Refusal
banks_checkpoint_at planned until name files = read_at (banks_resumed_by planned until) name files

abbrev pub banks_beginning_at : Option (List ℕ) → PlannedBanks → ℕ → Files → Result (List (ℕ → Sample)) Refusal
banks_beginning_at None planned until files = Ok (banks_opened_by planned)
banks_beginning_at (Some name) planned until files = banks_checkpoint_at planned until name files

-- the same of states at one epoch, of one bank or of several
abbrev pub level_checkpoint_at : PlannedBanks → ℕ → List ℕ → Files → Result (List (ℕ → Sample)) Refusal
level_checkpoint_at planned until name files = read_at (level_resumed_by planned until) name files

abbrev pub level_beginning_at : Option (List ℕ) → PlannedBanks → ℕ → Files → Result (List (ℕ → Sample)) Refusal
level_beginning_at None planned until files = Ok (banks_opened_by planned)
level_beginning_at (Some name) planned until files = level_checkpoint_at planned until name files

-- ---- what a run does

-- a run from there until an epoch, or until it has made so many hand-outs of a slot, unless it would print too much
unfoldable pub run_work : Option ℕ → Planned → ℕ → Beginning → Result Work Refusal
run_work stop_after planned until from =
    told_as refused.Plan (unless (amount_refusal planned.plan planned.orders (begins_at from) until) (RunWork planned from until stop_after))

-- the same of several banks
unfoldable pub banks_work : PlannedBanks → ℕ → List (ℕ → Sample) → Result Work Refusal
banks_work planned until starts =
    told_as refused.Plan (unless (banks_amount_refusal planned.plans planned.orders (starts_at starts) until) (BanksWork planned starts until))

-- the epoch at which a run ends: that of the words, or where they have none that of the run file
abbrev pub until_of : RunOrder → Orders → ℕ
until_of order orders = unwrap_or order.until orders.epochs

-- what a run of one bank asks for: what it starts from, and no more than it may print
abbrev pub run_from : RunOrder → Planned → Files → Result Work Refusal
run_from order planned held =
    and_then (beginning_at order.from planned (until_of order planned.orders) held) (run_work order.stop_after planned (until_of order planned.orders))

-- a run of several banks
abbrev pub banks_from : RunOrder → PlannedBanks → Files → Result Work Refusal
banks_from order planned held =
    and_then (banks_beginning_at order.from planned (until_of order planned.orders) held) (banks_work planned (until_of order planned.orders))

abbrev pub run_of : RunOrder → Files → Plans → Result Work Refusal
run_of order held (One planned) = run_from order planned held
run_of order held (Banks planned) = banks_from order planned held

-- a run that may stop between epochs has one bank
abbrev pub has_banks : Option ℕ → Bool
has_banks None = true
has_banks (Some takes) = false

-- what a run asks for: the plans of its banks, and then that
abbrev pub run_at : RunOrder → Files → Result Work Refusal
run_at order held = and_then (plans_at (has_banks order.stop_after) order.run held) (run_of order held)

-- the last epoch of a run that is measured, and the sums over it from what it starts from; no amount is refused
abbrev pub measured_until : MeasureOrder → Orders → ℕ
measured_until order orders = until_of (run_to_measure order) orders

abbrev pub measure_from : MeasureOrder → PlannedBanks → Files → Result Work Refusal
measure_from order planned held =
    and_then (level_beginning_at order.from planned (measured_until order planned.orders) held)
    (λ starts. Ok (MeasureWork planned starts (measured_until order planned.orders)))

abbrev pub measure_at : MeasureOrder → Files → Result Work Refusal
measure_at order held = and_then (banked_at order.run held) (λ planned. measure_from order planned held)

-- the averages of the report of a name, in so many blocks of its samples
unfoldable pub averages_at : AverageOrder → Files → Result AveragesView Refusal
averages_at order files = and_then (bytes_at roles.Report order.report files) (λ bytes. told_as refused.Report (averages_in order.blocks bytes))

-- the packed state that the checkpoint of a name is, whose slots are all at one epoch
unfoldable pub stand_at : Plan → List ℕ → Files → Result Stand Refusal
stand_at plan name files =
    and_then (bytes_at roles.Checkpoint name files) (λ bytes. told_as refused.Checkpoint (decoded plan last_epoch bytes))

-- the plan and the orders of a run, and then the state of a checkpoint of it
unfoldable pub saved_at : LinesOrder → Files → Result SavedState Refusal
saved_at order files =
    and_then (plan_at order.run files) (λ planned.
    and_then (stand_at planned.plan order.checkpoint files) (λ base.
    Ok (record { planned = planned; base = base })))

-- the plans of two saved states: that of each bank, also of the only one
unfoldable pub cross_plans_at : List ℕ → Files → Result PlannedBanks Refusal
cross_plans_at name files = and_then (run_file_at true name files) (λ file. banks_after_file file files)

-- the states of the first checkpoint, and of the second one
unfoldable pub first_at : List Plan → List ℕ → Files → Result (List Stand) Refusal
first_at plans name files =
    and_then (bytes_at roles.Checkpoint name files) (λ bytes. told_as refused.Checkpoint (states_decoded plans bytes))

unfoldable pub second_at : List Plan → List ℕ → Files → Result (List Stand) Refusal
second_at plans name files =
    and_then (bytes_at roles.SecondCheckpoint name files) (λ bytes. told_as refused.SecondCheckpoint (states_decoded plans bytes))

-- both, the second under the plans with its seed and all else the same
unfoldable pub crossed_after : CrossOrder → PlannedBanks → Files → Result CrossedStates Refusal
crossed_after order planned files =
    and_then (first_at planned.plans order.first files) (λ first.
    and_then (second_at (seeded order.seed planned.plans) order.second files) (λ second.
    Ok (record { planned = planned; seed = order.seed; first = first; second = second })))

unfoldable pub crossed_at : CrossOrder → Files → Result CrossedStates Refusal
crossed_at order files = and_then (cross_plans_at order.run files) (λ planned. crossed_after order planned files)

-- ---- requests

-- what a command asks for; none where it depends on files that aren't observable
abbrev pub request_of : Command → Option Files → Option (Result Work Refusal)
request_of (Plain order) files = Some (Ok (PlainWork order))
request_of (Check name) files = option_map (λ held. and_then (plans_at true name held) (λ plans. Ok (CheckWork plans))) files
request_of (Run order) files = option_map (run_at order) files
request_of (Average order) files = option_map (λ held. and_then (averages_at order held) (λ averages. Ok (AverageWork averages))) files
request_of (Demo n) files = Some (Ok (DemoWork n))
request_of (Lines order) files = option_map (λ held. and_then (saved_at order held) (λ saved. Ok (LinesWork saved))) files
request_of (Potts order) files = Some (Ok (PottsWork order))
request_of (Age order) files = option_map (λ held. and_then (plan_at order.run held) (λ planned. Ok (AgeWork planned order.wait order.times))) files
request_of (Measure order) files = option_map (measure_at order) files
request_of (Cross order) files = option_map (λ held. and_then (crossed_at order held) (λ crossed. Ok (CrossWork crossed))) files

-- the same of words that may be no command
abbrev pub request_for : Option Command → Option Files → Option (Result Work Refusal)
request_for None files = Some (Err refused.Words)
request_for (Some command) files = request_of command files

-- what the words ask for
abbrev pub request : List (List ℕ) → Option Files → Option (Result Work Refusal)
request words files = request_for (command_of words) files

-- the same of what is asked for, where it is work
abbrev pub GivesAsked : Result Work Refusal → (List ℕ → List ℕ → Type 0) → Type 0
GivesAsked (Ok work) P = Gives work P
GivesAsked (Err refusal) P = Unit {0}
