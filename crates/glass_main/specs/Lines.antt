-- The lines on the error output, one for each way in which a call ends but the good one.
use Rattle.std.specs.Prelude.{ℕ, ◌&&◌, nat_le, if◌then◌else◌, List, [], ◌++◌, map, codes, decimal}
use Rattle.std.specs.Fmt.{signed_decimal}
use Rattle.run_plan.specs.RunFile.{name_of}
use Rattle.run_plan.specs.declared.refused.PlanRefused.{PlanRefused}
use Rattle.run_plan.specs.declared.refused.PlanRefused.TheVariants as plan
use Rattle.hex.specs.Hex.{encode_lower}
use Rattle.coupling_set.specs.declared.refused.CouplingsRefused.{CouplingsRefused}
use Rattle.coupling_set.specs.declared.refused.CouplingsRefused.TheVariants as couplings
use Rattle.run_checkpoint.specs.declared.refused.CheckpointRefused.{CheckpointRefused}
use Rattle.run_checkpoint.specs.declared.refused.CheckpointRefused.TheVariants as checkpoint
use Rattle.threshold_table.specs.declared.refused.TableRefused.{TableRefused}
use Rattle.threshold_table.specs.declared.refused.TableRefused.TheVariants as table
use Rattle.sample_average.specs.declared.refused.ReportRefused.{ReportRefused}
use Rattle.sample_average.specs.declared.refused.ReportRefused.TheVariants as report
use Rattle.glass_main.specs.declared.role.Role.{Role}
use Rattle.glass_main.specs.declared.role.Role.TheVariants as roles
use Rattle.glass_main.specs.declared.refusal.Refusal.{Refusal}
use Rattle.glass_main.specs.declared.refusal.Refusal.TheVariants.{Words, Absent, TooLong, Plan, Rules, Swaps, Couplings, Checkpoint, Report, SecondCheckpoint}
use Rattle.glass_main.specs.declared.ending.Ending.{Ending}
use Rattle.glass_main.specs.declared.ending.Ending.TheVariants.{Done, Refused, Unread, Unwritten, Unsaved, NoMemory}

-- a file by what it is read as
unfoldable pub role_name : Role → List ℕ
role_name roles.RunFile = codes "run file"
role_name roles.RuleTable = codes "rule table"
role_name roles.SwapTable = codes "swap table"
role_name roles.Couplings = codes "couplings file"
role_name roles.Checkpoint = codes "checkpoint"
role_name roles.Report = codes "report"
role_name roles.SecondCheckpoint = codes "second checkpoint"

unfoldable pub memory_line : List ℕ
memory_line = codes "glass: no memory\n"

-- a byte as it is printed: itself where it is a printable one of ASCII, else a question mark (63)
abbrev pub printable : ℕ → ℕ
printable b = if nat_le 32 b && nat_le b 126 then b else 63

-- why a run file was refused, or the amount of what it orders
unfoldable pub plan_line : PlanRefused → List ℕ
plan_line plan.Toml = codes "glass: the run file is not TOML\n"
plan_line (plan.Missing key) = codes "glass: key " ++ name_of key ++ codes " is missing\n"
plan_line (plan.Kind key) = codes "glass: key " ++ name_of key ++ codes " has the wrong kind\n"
plan_line (plan.Range key value) = codes "glass: key " ++ name_of key ++ codes " is out of range: " ++ signed_decimal value ++ codes "\n"
plan_line (plan.Word key) = codes "glass: key " ++ name_of key ++ codes " has an unknown word\n"
plan_line (plan.Unknown key) = codes "glass: unknown key " ++ map printable key ++ codes "\n"
plan_line (plan.Rows count) = codes "glass: too many rows: " ++ decimal count ++ codes "\n"
plan_line (plan.Spins bits) = codes "glass: too many spin bits: " ++ decimal bits ++ codes "\n"
plan_line plan.NoMemory = memory_line
plan_line (plan.Banks samples) = codes "glass: this command needs at most 64 samples, not " ++ decimal samples ++ codes "\n"

-- how a line begins that speaks of a file, of a record of a table, and of a field of a record
unfoldable pub file_front : Role → List ℕ
file_front role = codes "glass: the " ++ role_name role

unfoldable pub record_front : Role → ℕ → List ℕ
record_front role at = file_front role ++ codes ", record " ++ decimal at

unfoldable pub field_front : Role → ℕ → ℕ → List ℕ
field_front role at field = record_front role at ++ codes ", field " ++ decimal field

-- why a table was refused
unfoldable pub table_line : Role → TableRefused → List ℕ
table_line role table.Csv = file_front role ++ codes " is not CSV\n"
table_line role (table.Fields at found wanted) =
    record_front role at ++ codes " has " ++ decimal found ++ codes " fields, not " ++ decimal wanted ++ codes "\n"
table_line role (table.Number at field) = field_front role at field ++ codes " is not a number\n"
table_line role (table.TooGreat at field value) = field_front role at field ++ codes " is too great: " ++ decimal value ++ codes "\n"
table_line role (table.Records found wanted) =
    file_front role ++ codes " has " ++ decimal found ++ codes " records, not " ++ decimal wanted ++ codes "\n"
table_line role table.NoMemory = memory_line

-- why a couplings file was refused
unfoldable pub couplings_line : CouplingsRefused → List ℕ
couplings_line (couplings.Short len) = file_front roles.Couplings ++ codes " is too short: " ++ decimal len ++ codes " bytes\n"
couplings_line couplings.Magic = file_front roles.Couplings ++ codes " is of another kind\n"
couplings_line (couplings.Size found) = file_front roles.Couplings ++ codes " has size " ++ decimal found ++ codes "\n"
couplings_line (couplings.Samples found) = file_front roles.Couplings ++ codes " has " ++ decimal found ++ codes " samples\n"
couplings_line (couplings.Length found wanted) =
    file_front roles.Couplings ++ codes " has " ++ decimal found ++ codes " bytes, not " ++ decimal wanted ++ codes "\n"
couplings_line (couplings.Digest stored computed) =
    file_front roles.Couplings ++ codes " is damaged: " ++ encode_lower stored ++ codes " stored, " ++ encode_lower computed ++ codes " computed\n"
couplings_line couplings.NoMemory = memory_line

-- why a checkpoint was refused, that of this role
unfoldable pub checkpoint_line : Role → CheckpointRefused → List ℕ
checkpoint_line role (checkpoint.Short len) = file_front role ++ codes " is too short: " ++ decimal len ++ codes " bytes\n"
checkpoint_line role checkpoint.Magic = file_front role ++ codes " is of another kind\n"
checkpoint_line role (checkpoint.Shape size slots) =
    file_front role ++ codes " has size " ++ decimal size ++ codes " and " ++ decimal slots ++ codes " slots\n"
checkpoint_line role (checkpoint.Length found wanted) =
    file_front role ++ codes " has " ++ decimal found ++ codes " bytes, not " ++ decimal wanted ++ codes "\n"
checkpoint_line role (checkpoint.Digest stored computed) =
    file_front role ++ codes " is damaged: " ++ encode_lower stored ++ codes " stored, " ++ encode_lower computed ++ codes " computed\n"
checkpoint_line role (checkpoint.OtherPlan stored mine) =
    file_front role ++ codes " is of another plan: " ++ encode_lower stored ++ codes " stored, " ++ encode_lower mine ++ codes " here\n"
checkpoint_line role (checkpoint.Replicas slot copy sample) =
    file_front role ++ codes " has a wrong replica at slot " ++ decimal slot ++ codes ", copy " ++ decimal copy
    ++ codes ", sample " ++ decimal sample ++ codes "\n"
checkpoint_line role (checkpoint.Late epoch until) =
    file_front role ++ codes " is at epoch " ++ decimal epoch ++ codes ", past " ++ decimal until ++ codes "\n"
checkpoint_line role checkpoint.NoMemory = memory_line
checkpoint_line role (checkpoint.Places slot) = file_front role ++ codes " has a wrong place at slot " ++ decimal slot ++ codes "\n"
checkpoint_line role (checkpoint.Orders samples every) =
    file_front role ++ codes " is of samples=" ++ decimal samples ++ codes " every=" ++ decimal every ++ codes "\n"
checkpoint_line role (checkpoint.Pending found wanted) =
    file_front role ++ codes " has " ++ decimal found ++ codes " pending records, not " ++ decimal wanted ++ codes "\n"
checkpoint_line role (checkpoint.BankCount found wanted) =
    file_front role ++ codes " has " ++ decimal found ++ codes " banks, not " ++ decimal wanted ++ codes "\n"
checkpoint_line role (checkpoint.BankEpoch bank epoch first) =
    file_front role ++ codes " has bank " ++ decimal bank ++ codes " at epoch " ++ decimal epoch ++ codes ", not " ++ decimal first ++ codes "\n"

-- why a report was refused
unfoldable pub report_line : ReportRefused → List ℕ
report_line (report.Line line) = file_front roles.Report ++ codes " is wrong at line " ++ decimal line ++ codes "\n"
report_line (report.Blocks blocks samples) =
    file_front roles.Report ++ codes " has " ++ decimal samples ++ codes " samples, too few for " ++ decimal blocks ++ codes " blocks\n"
report_line report.NoMemory = memory_line

-- the line of a refusal
unfoldable pub refusal_line : Refusal → List ℕ
refusal_line Words = codes "glass: the command line is not understood\n"
refusal_line (TooLong role n) = file_front role ++ codes " is too long: " ++ decimal n ++ codes " bytes\n"
refusal_line (Plan refused) = plan_line refused
refusal_line (Rules refused) = table_line roles.RuleTable refused
refusal_line (Swaps refused) = table_line roles.SwapTable refused
refusal_line (Couplings refused) = couplings_line refused
refusal_line (Checkpoint refused) = checkpoint_line roles.Checkpoint refused
refusal_line (Report refused) = report_line refused
refusal_line (SecondCheckpoint refused) = checkpoint_line roles.SecondCheckpoint refused
refusal_line (Absent role) = file_front role ++ codes " is not held\n"

-- the line of an ending
unfoldable pub line_of : Ending → List ℕ
line_of Done = []
line_of (Refused refusal) = refusal_line refusal
line_of (Unread role) = codes "glass: reading the " ++ role_name role ++ codes " failed\n"
line_of Unwritten = codes "glass: writing the report failed\n"
line_of Unsaved = codes "glass: placing the checkpoint failed\n"
line_of NoMemory = memory_line
