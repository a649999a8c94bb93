-- The command that the words after the program's name ask for.
use Rattle.std.specs.Prelude.{ℕ, ◌^◌, ◌+◌, ◌-◌, ◌==◌, if◌then◌else◌, List, length, codes, Option, Some, None, option_map}
use Rattle.std.specs.Str.{bytes_eq}
use Rattle.spin_model.specs.Limits.{certain, greatest_demo, most_sweeps}
use Rattle.command_words.specs.PottsWords.{PottsOrder, potts_order}
use Rattle.command_words.specs.AgeWords.{AgeOrder, times_of}
use Rattle.command_words.specs.RunWords.{RunOrder}
use Rattle.command_words.specs.RunReading.{run_order}
use Rattle.command_words.specs.MeasureWords.{MeasureOrder, measure_order}
use Rattle.command_words.specs.CrossWords.{CrossOrder, cross_order}
use Rattle.command_words.specs.Words.{given, word_at, size_word, number_word, number_words, name_word}

-- one replica of the ferromagnet: the side of the lattice, the number of sweeps, the seed, and the seven thresholds
pub record PlainOrder : Type 0 where
  pub size : ℕ
  pub sweeps : ℕ
  pub seed : ℕ
  pub thresholds : List ℕ

-- averages: the name of the report, and the number of blocks of its samples
pub record AverageOrder : Type 0 where
  pub report : List ℕ
  pub blocks : ℕ

-- link overlaps and correlation lines: the names of the run file and of the checkpoint
pub record LinesOrder : Type 0 where
  pub run : List ℕ
  pub checkpoint : List ℕ

-- a command of the program: one replica of the ferromagnet; a look at the run file of a name; a run; averages of a report; a large
-- run whose plan is made from a number; link overlaps and correlation lines of a checkpoint; a run of the Potts glass; an aging run;
-- sums over a run; overlaps of the copies of two saved states
pub data Command : Type 0 where
  Plain : PlainOrder → Command
  Check : List ℕ → Command
  Run : RunOrder → Command
  Average : AverageOrder → Command
  Demo : ℕ → Command
  Lines : LinesOrder → Command
  Potts : PottsOrder → Command
  Age : AgeOrder → Command
  Measure : MeasureOrder → Command
  Cross : CrossOrder → Command

-- `plain SIZE SWEEPS SEED T0 T1 T2 T3 T4 T5 T6`
unfoldable pub plain_order : List (List ℕ) → Option PlainOrder
plain_order words =
    if length words == 11 then
    given (size_word (word_at words 1)) (λ size.
    given (number_word 0 most_sweeps (word_at words 2)) (λ sweeps.
    given (number_word 0 (2 ^ 63 - 1) (word_at words 3)) (λ seed.
    given (number_words 0 certain words 4 7) (λ thresholds.
    Some (record { size = size; sweeps = sweeps; seed = seed; thresholds = thresholds })))))
    else None

-- `check RUN`
unfoldable pub check_name : List (List ℕ) → Option (List ℕ)
check_name words = if length words == 2 then name_word (word_at words 1) else None

-- `average REPORT BLOCKS`, 1 to 256 blocks
unfoldable pub average_order : List (List ℕ) → Option AverageOrder
average_order words =
    if length words == 3 then
    given (name_word (word_at words 1)) (λ report.
    given (number_word 1 256 (word_at words 2)) (λ blocks.
    Some (record { report = report; blocks = blocks })))
    else None

-- `age RUN TW N` and N times: a waiting time up to a million, 1 to 32 times
unfoldable pub age_order : List (List ℕ) → Option AgeOrder
age_order words =
    given (name_word (word_at words 1)) (λ run.
    given (number_word 0 most_sweeps (word_at words 2)) (λ wait.
    given (number_word 1 32 (word_at words 3)) (λ count.
    if length words == 4 + count then
    given (times_of count words) (λ times. Some (record { run = run; wait = wait; times = times }))
    else None)))

-- `demo N`, N up to a million
unfoldable pub demo_number : List (List ℕ) → Option ℕ
demo_number words = if length words == 2 then number_word 0 greatest_demo (word_at words 1) else None

-- `lines RUN CHECKPOINT`
unfoldable pub lines_order : List (List ℕ) → Option LinesOrder
lines_order words =
    if length words == 3 then
    given (name_word (word_at words 1)) (λ run.
    given (name_word (word_at words 2)) (λ checkpoint.
    Some (record { run = run; checkpoint = checkpoint })))
    else None

-- the first word is the command's name; none where the words are no command. The words of `run` and `measure` are read from the left:
-- what they say is `SaysRun` of RunWords and `SaysMeasure` of MeasureWords, by the clauses `run_words` and `measure_words` of the top call
unfoldable pub command_of : List (List ℕ) → Option Command
command_of words =
    if bytes_eq (word_at words 0) (codes "plain") then option_map Plain (plain_order words)
    else if bytes_eq (word_at words 0) (codes "check") then option_map Check (check_name words)
    else if bytes_eq (word_at words 0) (codes "run") then option_map Run (run_order words)
    else if bytes_eq (word_at words 0) (codes "average") then option_map Average (average_order words)
    else if bytes_eq (word_at words 0) (codes "demo") then option_map Demo (demo_number words)
    else if bytes_eq (word_at words 0) (codes "lines") then option_map Lines (lines_order words)
    else if bytes_eq (word_at words 0) (codes "potts") then option_map Potts (potts_order words)
    else if bytes_eq (word_at words 0) (codes "age") then option_map Age (age_order words)
    else if bytes_eq (word_at words 0) (codes "measure") then option_map Measure (measure_order words)
    else if bytes_eq (word_at words 0) (codes "cross") then option_map Cross (cross_order words)
    else None

-- the name under which words ask for a checkpoint to be saved
abbrev pub saved_name : Option Command → Option (List ℕ)
saved_name None = None
saved_name (Some (Plain order)) = None
saved_name (Some (Check name)) = None
saved_name (Some (Run order)) = order.save
saved_name (Some (Average order)) = None
saved_name (Some (Demo n)) = None
saved_name (Some (Lines order)) = None
saved_name (Some (Potts order)) = None
saved_name (Some (Age order)) = None
saved_name (Some (Measure order)) = order.save
saved_name (Some (Cross order)) = None
