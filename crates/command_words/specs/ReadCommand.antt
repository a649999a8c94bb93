-- A command of the program as a command of the definitions, and the limits of its numbers.
use Rattle.std.specs.Borrow.{Bor}
use Rattle.std.specs.Prelude.{ℕ, ◌≤◌, List, Option, option_map, IfSome}
use Rattle.spin_model.specs.Limits.{every_take, greatest_demo, last_epoch}
use Rattle.command_words.specs.CommandLine as model
use Rattle.command_words.specs.RunWords as run_words
use Rattle.command_words.specs.MeasureWords as measure_words
use Rattle.command_words.specs.RunReading as run_reading
use Rattle.command_words.specs.ReadPotts.{read_potts_order, IsLawfulPotts}
use Rattle.command_words.specs.ReadAge.{read_age_order, IsLawfulAge}
use Rattle.command_words.specs.ReadCross.{read_cross_order, IsLawfulCross}
use Rattle.command_words.specs.declared.average_words.AverageOrder.{AverageOrder}
use Rattle.command_words.specs.declared.correlation_words.LinesOrder.{LinesOrder}
use Rattle.command_words.specs.declared.command_line.PlainOrder.{PlainOrder}
use Rattle.command_words.specs.declared.command_line.Command.{Command}
use Rattle.command_words.specs.declared.command_line.Command.TheVariants.{Plain, Check, Run, Average, Demo, Lines, Potts, Age, Measure, Cross}
use Rattle.command_words.specs.declared.measure_words.MeasureOrder.{MeasureOrder}
use Rattle.command_words.specs.declared.run_words.RunOrder.{RunOrder}
use Rattle.command_words.specs.declared.run_words.RunWords.{RunWords}

-- the order of `plain`
abbrev pub read_order : PlainOrder → model.PlainOrder
read_order order = record { size = order.lattice; sweeps = order.sweeps; seed = order.seed; thresholds = order.thresholds }

-- the bytes of a name, where there is one
abbrev pub name_bytes : Option (Bor (List ℕ)) → Option (List ℕ)
name_bytes name = option_map (λ (n : Bor (List ℕ)). n.now) name

-- the order of `run`
abbrev pub read_run_order : RunOrder → run_words.RunOrder
read_run_order order = record {
  run = order.run.now;
  workers = order.workers;
  pieces = order.pieces;
  until = order.until;
  from = name_bytes order.from;
  save = name_bytes order.save;
  stop_after = order.stop_after;
}

-- the order of `measure`
abbrev pub read_measure_order : MeasureOrder → measure_words.MeasureOrder
read_measure_order order = record {
  run = order.run.now;
  workers = order.workers;
  pieces = order.pieces;
  until = order.until;
  from = name_bytes order.from;
  save = name_bytes order.save;
}

-- the order of `average`
abbrev pub read_average_order : AverageOrder → model.AverageOrder
read_average_order order = record { report = order.report.now; blocks = order.blocks }

-- the order of `lines`
abbrev pub read_lines_order : LinesOrder → model.LinesOrder
read_lines_order order = record { run = order.run.now; checkpoint = order.checkpoint.now }

-- a command
abbrev pub read_command : Command → model.Command
read_command (Plain order) = model.Plain (read_order order)
read_command (Check name) = model.Check name.now
read_command (Run order) = model.Run (read_run_order order)
read_command (Average order) = model.Average (read_average_order order)
read_command (Demo n) = model.Demo n
read_command (Lines order) = model.Lines (read_lines_order order)
read_command (Potts order) = model.Potts (read_potts_order order)
read_command (Age order) = model.Age (read_age_order order)
read_command (Measure order) = model.Measure (read_measure_order order)
read_command (Cross order) = model.Cross (read_cross_order order)

-- what the words of `run` have said
abbrev pub read_said : RunWords → run_reading.RunWords
read_said said = record {
  run = option_map (λ run. run.now) said.run;
  waiting = option_map (λ name. name.now) said.waiting;
  workers = said.workers;
  pieces = said.pieces;
  until = said.until;
  from = name_bytes said.from;
  save = name_bytes said.save;
  stop_after = said.stop_after;
}

-- 1 to 64 workers, 1 to 16 pieces, an epoch up to 1000000000, up to every_take hand-outs
pub record IsLawfulOrder (order : RunOrder) : Type 0 where
  pub some_workers : 1 ≤ order.workers
  pub few_workers : order.workers ≤ 64
  pub some_pieces : 1 ≤ order.pieces
  pub few_pieces : order.pieces ≤ 16
  pub until : IfSome order.until (λ e. e ≤ last_epoch)
  pub stop_after : IfSome order.stop_after (λ n. n ≤ every_take)

-- the same without hand-outs
pub record IsLawfulMeasure (order : MeasureOrder) : Type 0 where
  pub some_workers : 1 ≤ order.workers
  pub few_workers : order.workers ≤ 64
  pub some_pieces : 1 ≤ order.pieces
  pub few_pieces : order.pieces ≤ 16
  pub until : IfSome order.until (λ e. e ≤ last_epoch)

-- what holds of the order, of what the words have said
pub record AreLawfulWords (said : RunWords) : Type 0 where
  pub workers : IfSome said.workers (λ n. (1 ≤ n) × (n ≤ 64))
  pub pieces : IfSome said.pieces (λ n. (1 ≤ n) × (n ≤ 16))
  pub until : IfSome said.until (λ e. e ≤ last_epoch)
  pub stop_after : IfSome said.stop_after (λ n. n ≤ every_take)

-- 1 to 256 blocks
pub record IsLawfulAverage (order : AverageOrder) : Type 0 where
  pub some : 1 ≤ order.blocks
  pub few : order.blocks ≤ 256

-- the same of the order of a command; a plan is made from a number up to a million
abbrev pub IsLawfulCommand : Command → Type 0
IsLawfulCommand (Plain order) = Unit {0}
IsLawfulCommand (Check name) = Unit {0}
IsLawfulCommand (Run order) = IsLawfulOrder order
IsLawfulCommand (Average order) = IsLawfulAverage order
IsLawfulCommand (Demo n) = n ≤ greatest_demo
IsLawfulCommand (Lines order) = Unit {0}
IsLawfulCommand (Potts order) = IsLawfulPotts order
IsLawfulCommand (Age order) = IsLawfulAge order
IsLawfulCommand (Measure order) = IsLawfulMeasure order
IsLawfulCommand (Cross order) = IsLawfulCross order
