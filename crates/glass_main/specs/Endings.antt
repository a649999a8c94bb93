-- Which endings words may have, over any store: what holds also where no file is observable.
use Rattle.std.specs.Prelude.{◌≡◌, ◌≢◌, ◌⊎◌, ℕ, ◌<◌, Bool, true, false, List, Option, Some, None, option_map, IfSome, Err}
use Rattle.glass_edges.specs.Contents.{Files, HoldsAtLeast}
use Rattle.spin_model.specs.Limits.{last_epoch, most_rows}
use Rattle.coupling_set.specs.CouplingsFile.{couplings_in}
use Rattle.coupling_set.specs.declared.refused.CouplingsRefused.{CouplingsRefused}
use Rattle.coupling_set.specs.declared.refused.CouplingsRefused.TheVariants as couplings
use Rattle.threshold_table.specs.Tables.{RuleView, rule_table, swap_table}
use Rattle.threshold_table.specs.declared.refused.TableRefused.{TableRefused}
use Rattle.threshold_table.specs.declared.refused.TableRefused.TheVariants as table
use Rattle.threshold_table.specs.declared.rule_table.RuleKind.{RuleKind}
use Rattle.run_checkpoint.specs.BankDecoding.{banks_refusal}
use Rattle.run_checkpoint.specs.Decoding.{level_refusal}
use Rattle.run_checkpoint.specs.UnevenDecoding.{any_refusal}
use Rattle.run_checkpoint.specs.declared.refused.CheckpointRefused.{CheckpointRefused}
use Rattle.run_checkpoint.specs.declared.refused.CheckpointRefused.TheVariants as checkpoint
use Rattle.run_plan.specs.Amounts.{most_spins}
use Rattle.run_plan.specs.RunFile.{run_file}
use Rattle.run_plan.specs.declared.refused.PlanRefused.{PlanRefused}
use Rattle.run_plan.specs.declared.refused.PlanRefused.TheVariants as plan
use Rattle.run_plan.specs.declared.run_file.RunFile.{RunFile}
use Rattle.sample_average.specs.Averages.{IsRefusal}
use Rattle.sample_average.specs.declared.refused.ReportRefused.{ReportRefused}
use Rattle.sample_average.specs.declared.refused.ReportRefused.TheVariants as report
use Rattle.scalar_rule.specs.Plan as rule
use Rattle.command_words.specs.RunWords.{RunOrder}
use Rattle.command_words.specs.MeasureWords.{run_to_measure}
use Rattle.command_words.specs.CommandLine.{Command, Plain, Check, Run, Average, Demo, Lines, Potts, Age, Measure, Cross}
use Rattle.glass_main.specs.MeasureRun.{level_banks_refusal}
use Rattle.glass_main.specs.Request.{limit_of, and_then, banked, IsAccepted, run_file_at, rules_at, swaps_at, tables_at, plan_at, plans_at, has_banks, cross_plans_at, first_at}
use Rattle.command_words.specs.CrossWords.{CrossOrder}
use Rattle.glass_main.specs.CrossRun.{states_decoded}
use Rattle.glass_main.specs.ManyBanks.{PlannedBanks}
use Rattle.glass_main.specs.declared.role.Role.{Role}
use Rattle.glass_main.specs.declared.role.Role.TheVariants as roles
use Rattle.glass_main.specs.declared.refusal.Refusal.{Refusal}
use Rattle.glass_main.specs.declared.refusal.Refusal.TheVariants as refused
use Rattle.glass_main.specs.declared.ending.Ending.{Ending}
use Rattle.glass_main.specs.declared.ending.Ending.TheVariants.{Done, Refused, Unread, Unwritten, Unsaved, NoMemory}

-- ---- refusals

-- some run file is refused so, or for more samples than the command can run; a reader's lack of memory is no refusal
pub record IsOfRunFile (e : PlanRefused) : Type 0 where
  pub refusal : ¬ (e ≡ plan.NoMemory)
  pub cause : (bytes : List ℕ) × (banked false (run_file bytes) ≡ Err e)

-- some rule table is refused so
pub record IsOfRules (e : TableRefused) : Type 0 where
  pub refusal : ¬ (e ≡ table.NoMemory)
  pub cause : (kind : RuleKind) × (bytes : List ℕ) × (rule_table kind bytes ≡ Err e)

-- some swap table is refused so
pub record IsOfSwaps (e : TableRefused) : Type 0 where
  pub refusal : ¬ (e ≡ table.NoMemory)
  pub cause : (slots : ℕ) × (bytes : List ℕ) × (swap_table slots bytes ≡ Err e)

-- some couplings file is refused so
pub record IsOfCouplings (e : CouplingsRefused) : Type 0 where
  pub refusal : ¬ (e ≡ couplings.NoMemory)
  pub cause : (size : ℕ) × (bytes : List ℕ) × (couplings_in size 0 bytes ≡ Err e)

-- some checkpoint is refused so, of one bank for some plan, orders and last epoch, or of several for some plans and last epoch
pub record IsOfCheckpoint (e : CheckpointRefused) : Type 0 where
  pub refusal : ¬ (e ≡ checkpoint.NoMemory)
  pub cause : ((plan : rule.Plan) × (samples : ℕ) × (every : ℕ) × (until : ℕ) × (bytes : List ℕ) × (any_refusal plan samples every until bytes ≡ Some e))
      ⊎ ((plans : List rule.Plan) × (until : ℕ) × (bytes : List ℕ) × (banks_refusal plans until bytes ≡ Some e))

-- some report is refused so, by its grammar or for too few samples
pub record IsOfReport (blocks : ℕ) (e : ReportRefused) : Type 0 where
  pub refusal : ¬ (e ≡ report.NoMemory)
  pub cause : (bytes : List ℕ) × IsRefusal bytes blocks e

-- a refusal of a file that is fetched, and not of the words; of a file that is too long a length above its limit is told
abbrev pub IsOfFile : (Role → Type 0) → Refusal → Type 0
IsOfFile fetches refused.Words = ⊥
IsOfFile fetches (refused.Absent role) = fetches role
IsOfFile fetches (refused.TooLong role n) = fetches role × (limit_of role < n)
IsOfFile fetches (refused.Plan e) = fetches roles.RunFile × IsOfRunFile e
IsOfFile fetches (refused.Rules e) = fetches roles.RuleTable × IsOfRules e
IsOfFile fetches (refused.Swaps e) = fetches roles.SwapTable × IsOfSwaps e
IsOfFile fetches (refused.Couplings e) = fetches roles.Couplings × IsOfCouplings e
IsOfFile fetches (refused.Checkpoint e) = fetches roles.Checkpoint × IsOfCheckpoint e
IsOfFile fetches (refused.Report e) = ⊥
IsOfFile fetches (refused.SecondCheckpoint e) = fetches roles.SecondCheckpoint × IsOfCheckpoint e

-- a refusal of a report, of which averages in so many blocks are asked for
abbrev pub IsOfAverages : ℕ → Refusal → Type 0
IsOfAverages blocks (refused.Absent role) = role ≡ roles.Report
IsOfAverages blocks (refused.TooLong role n) = (role ≡ roles.Report) × (limit_of role < n)
IsOfAverages blocks (refused.Report e) = IsOfReport blocks e
IsOfAverages blocks told = ⊥

-- a command that takes many banks of 64 samples tells no need of fewer samples; one that takes but one bank may
abbrev pub IsOfBanked : Bool → Refusal → Type 0
IsOfBanked many (refused.Plan (plan.Banks samples)) = many ≡ false
IsOfBanked many told = Unit {0}

-- of a checkpoint that is refused at one epoch, which is at most 1000000000: some bytes are, for some plan
abbrev pub IsOfOneEpoch : Refusal → Type 0
IsOfOneEpoch (refused.Checkpoint e) = (plan : rule.Plan) × (bytes : List ℕ) × (level_refusal plan last_epoch bytes ≡ Some e)
IsOfOneEpoch told = Unit {0}

-- the same of one bank or of several, at any epoch
abbrev pub IsOfLevel : Refusal → Type 0
IsOfLevel (refused.Checkpoint e) = (plans : List rule.Plan) × (until : ℕ) × (bytes : List ℕ) × (level_banks_refusal plans until bytes ≡ Some e)
IsOfLevel told = Unit {0}

-- of the checkpoint of a state at one epoch, of one bank or of several: some bytes are refused so, for some plans
abbrev pub IsOfStates : Refusal → Type 0
IsOfStates (refused.Checkpoint e) = (plans : List rule.Plan) × (bytes : List ℕ) × (states_decoded plans bytes ≡ Err e)
IsOfStates (refused.SecondCheckpoint e) = (plans : List rule.Plan) × (bytes : List ℕ) × (states_decoded plans bytes ≡ Err e)
IsOfStates told = Unit {0}

-- a length that is told is of a file that the store holds: that file is at least so long, where the files are observable. Where the store
-- says beforehand which length a fetch of that file tells, it is that one
pub record IsLengthOf (held : Option Files) (lengths : List ℕ → ℕ → Option ℕ) (limit count : ℕ) : Type 0 where
  pub name : List ℕ
  pub long : HoldsAtLeast held name count
  pub told : IfSome (lengths name limit) (λ length. count ≡ length)

-- a length is told as a fetch answers it
abbrev pub TellsLength : Option Files → (List ℕ → ℕ → Option ℕ) → Refusal → Type 0
TellsLength held lengths (refused.TooLong role n) = IsLengthOf held lengths (limit_of role) n
TellsLength held lengths told = Unit {0}

-- a refusal of what a run prints; the amount that is told is above its limit
abbrev pub IsOfAmount : Refusal → Type 0
IsOfAmount (refused.Plan (plan.Rows count)) = most_rows < count
IsOfAmount (refused.Plan (plan.Spins bits)) = most_spins < bits
IsOfAmount told = ⊥

-- ---- files that are fetched

-- which files after the rule table: no step before the one that fetches the file refuses, as far as the files are
-- observable
abbrev pub IsReachedAfterRules : RunFile → RuleView → Option Files → Role → Type 0
IsReachedAfterRules file rules held roles.RunFile = ⊥
IsReachedAfterRules file rules held roles.RuleTable = ⊥
IsReachedAfterRules file rules held roles.SwapTable = Unit {0}
IsReachedAfterRules file rules held roles.Report = ⊥
IsReachedAfterRules file rules held roles.Couplings = IfSome (option_map (swaps_at file rules) held) IsAccepted
IsReachedAfterRules file rules held roles.Checkpoint = ⊥
IsReachedAfterRules file rules held roles.SecondCheckpoint = ⊥

-- which tables and couplings of a run file
abbrev pub IsReachedAfter : RunFile → Option Files → Role → Type 0
IsReachedAfter file held roles.RunFile = ⊥
IsReachedAfter file held roles.RuleTable = Unit {0}
IsReachedAfter file held roles.SwapTable = IfSome (option_map (rules_at file) held) IsAccepted
IsReachedAfter file held roles.Report = ⊥
IsReachedAfter file held roles.Couplings = IfSome (option_map (tables_at file) held) IsAccepted
IsReachedAfter file held roles.Checkpoint = ⊥
IsReachedAfter file held roles.SecondCheckpoint = ⊥

-- which files from a run file's name on, for a command that runs many banks or but one
abbrev pub IsReached : Bool → List ℕ → Option Files → Role → Type 0
IsReached many name held roles.RunFile = Unit {0}
IsReached many name held roles.RuleTable = IfSome (option_map (run_file_at many name) held) IsAccepted
IsReached many name held roles.SwapTable =
    IfSome (option_map (λ files. and_then (run_file_at many name files) (λ file. rules_at file files)) held) IsAccepted
IsReached many name held roles.Report = ⊥
IsReached many name held roles.Couplings =
    IfSome (option_map (λ files. and_then (run_file_at many name files) (λ file. tables_at file files)) held) IsAccepted
IsReached many name held roles.Checkpoint = ⊥
IsReached many name held roles.SecondCheckpoint = ⊥

-- the checkpoint, where one is named
pub record FetchesCheckpoint (name : Option (List ℕ)) (role : Role) : Type 0 where
  pub role_is : role ≡ roles.Checkpoint
  pub named : name ≢ None

-- that of an order: no step before refuses
pub record IsResumed (order : RunOrder) (held : Option Files) (role : Role) : Type 0 where
  pub fetches : FetchesCheckpoint order.from role
  pub reached : IfSome (option_map (plans_at (has_banks order.stop_after) order.run) held) IsAccepted

-- which files of a run and of a checkpoint that is read behind them
abbrev pub IsReachedSaved : List ℕ → Option Files → Role → Type 0
IsReachedSaved name held roles.Checkpoint = IfSome (option_map (plan_at name) held) IsAccepted
IsReachedSaved name held role = IsReached false name held role

-- which checkpoints of two states whose plans are read: the second one behind the first
abbrev pub IsReachedStates : CrossOrder → PlannedBanks → Option Files → Role → Type 0
IsReachedStates order planned held roles.RunFile = ⊥
IsReachedStates order planned held roles.RuleTable = ⊥
IsReachedStates order planned held roles.SwapTable = ⊥
IsReachedStates order planned held roles.Couplings = ⊥
IsReachedStates order planned held roles.Checkpoint = Unit {0}
IsReachedStates order planned held roles.Report = ⊥
IsReachedStates order planned held roles.SecondCheckpoint = IfSome (option_map (first_at planned.plans order.first) held) IsAccepted

-- and which files before them
abbrev pub IsReachedCrossed : CrossOrder → Option Files → Role → Type 0
IsReachedCrossed order held roles.Checkpoint = IfSome (option_map (cross_plans_at order.run) held) IsAccepted
IsReachedCrossed order held roles.SecondCheckpoint =
    IfSome (option_map (λ files. and_then (cross_plans_at order.run files) (λ planned. first_at planned.plans order.first files)) held) IsAccepted
IsReachedCrossed order held role = IsReached true order.run held role

-- ---- commands

-- the files that a command fetches, at which the store may fail: `plain`, `demo` and `potts` fetch none
abbrev pub MayFetch : Command → Option Files → Role → Type 0
MayFetch (Plain order) held role = ⊥
MayFetch (Check name) held role = IsReached true name held role
MayFetch (Run order) held role = IsReached (has_banks order.stop_after) order.run held role ⊎ IsResumed order held role
MayFetch (Average order) held role = role ≡ roles.Report
MayFetch (Demo n) held role = ⊥
MayFetch (Lines order) held role = IsReachedSaved order.run held role
MayFetch (Potts order) held role = ⊥
MayFetch (Age order) held role = IsReached false order.run held role
MayFetch (Measure order) held role = IsReached true order.run held role ⊎ IsResumed (run_to_measure order) held role
MayFetch (Cross order) held role = IsReachedCrossed order held role

-- what a command may be refused for: `plain`, `demo` and `potts` read no file, and are never refused; `check`, `lines`, `age`, `measure`,
-- `cross` and a run are for a file that they fetch, of which no step before refuses; no amount is asked for but by a run; `lines`, `measure`
-- and `cross` read checkpoints at one epoch alone; `check`, `measure`, `cross`, and a run that isn't to stop between epochs, take many banks
abbrev pub MayRefuse : Command → Option Files → Refusal → Type 0
MayRefuse (Plain order) held told = ⊥
MayRefuse (Check name) held told = IsOfFile (MayFetch (Check name) held) told × IsOfBanked true told
MayRefuse (Run order) held told = (IsOfFile (MayFetch (Run order) held) told × IsOfBanked (has_banks order.stop_after) told) ⊎ IsOfAmount told
MayRefuse (Average order) held told = IsOfAverages order.blocks told
MayRefuse (Demo n) held told = ⊥
MayRefuse (Lines order) held told = IsOfFile (MayFetch (Lines order) held) told × IsOfOneEpoch told
MayRefuse (Potts order) held told = ⊥
MayRefuse (Age order) held told = IsOfFile (MayFetch (Age order) held) told
MayRefuse (Measure order) held told = IsOfFile (MayFetch (Measure order) held) told × IsOfBanked true told × IsOfLevel told
MayRefuse (Cross order) held told = IsOfFile (MayFetch (Cross order) held) told × IsOfBanked true told × IsOfStates told

-- the commands that may fail at their checkpoint: runs that save one, also where they are measured
abbrev pub MaySave : Command → Type 0
MaySave (Plain order) = ⊥
MaySave (Check name) = ⊥
MaySave (Run order) = order.save ≢ None
MaySave (Average order) = ⊥
MaySave (Demo n) = ⊥
MaySave (Lines order) = ⊥
MaySave (Potts order) = ⊥
MaySave (Age order) = ⊥
MaySave (Measure order) = order.save ≢ None
MaySave (Cross order) = ⊥

-- how a command may end, where the store holds these files
abbrev pub MayEnd : Command → Option Files → Ending → Type 0
MayEnd command held Done = Unit {0}
MayEnd command held (Refused told) = MayRefuse command held told
MayEnd command held (Unread role) = MayFetch command held role
MayEnd command held Unwritten = Unit {0}
MayEnd command held Unsaved = MaySave command
MayEnd command held NoMemory = Unit {0}

-- words that read no file: those of `plain`, `demo` and `potts`, and those that are no command
abbrev pub ReadsNoFile : Option Command → Type 0
ReadsNoFile None = Unit {0}
ReadsNoFile (Some (Plain order)) = Unit {0}
ReadsNoFile (Some (Check name)) = ⊥
ReadsNoFile (Some (Run order)) = ⊥
ReadsNoFile (Some (Average order)) = ⊥
ReadsNoFile (Some (Demo n)) = Unit {0}
ReadsNoFile (Some (Lines order)) = ⊥
ReadsNoFile (Some (Potts order)) = Unit {0}
ReadsNoFile (Some (Age order)) = ⊥
ReadsNoFile (Some (Measure order)) = ⊥
ReadsNoFile (Some (Cross order)) = ⊥

-- words that are no command are refused as such, and no others
abbrev pub Reads : Option Command → Option Files → Ending → Type 0
Reads None held ending = ending ≡ Refused refused.Words
Reads (Some command) held ending = MayEnd command held ending
