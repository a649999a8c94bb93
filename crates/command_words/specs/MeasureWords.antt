-- What the words of `measure` say: what those of `run` say of a run that isn't to stop between epochs.
use Rattle.std.specs.Prelude.{◌≡◌, ℕ, List, ◌∷◌, codes, Option, Some, None}
use Rattle.command_words.specs.Words.{given}
use Rattle.command_words.specs.RunWords.{RunOrder, SaysRun}
use Rattle.command_words.specs.RunReading.{run_order}

-- sums over a run: the name of its run file, the workers, the pieces that the planes of a sweep are cut into, the epoch to end at
-- where it isn't the run file's, the checkpoint to go on from, and the name to save the run's own under
pub record MeasureOrder : Type 0 where
  pub run : List ℕ
  pub workers : ℕ
  pub pieces : ℕ
  pub until : Option ℕ
  pub from : Option (List ℕ)
  pub save : Option (List ℕ)

-- the run over which they are
abbrev pub run_to_measure : MeasureOrder → RunOrder
run_to_measure order = record {
  run = order.run;
  workers = order.workers;
  pieces = order.pieces;
  until = order.until;
  from = order.from;
  save = order.save;
  stop_after = None;
}

-- the words ask for these sums: they are `measure` and words that behind `run` ask for that run
pub record SaysMeasure (words : List (List ℕ)) (order : MeasureOrder) : Type 0 where
  pub options : List (List ℕ)
  pub written : words ≡ codes "measure" ∷ options
  pub run : SaysRun (codes "run" ∷ options) (run_to_measure order)

-- the sums over a run, unless that may stop between epochs
abbrev pub unless_stopped : Option ℕ → RunOrder → Option MeasureOrder
unless_stopped (Some takes) order = None
unless_stopped None order = Some (record {
  run = order.run;
  workers = order.workers;
  pieces = order.pieces;
  until = order.until;
  from = order.from;
  save = order.save;
})

-- `measure RUN` with `--workers N`, `--pieces P`, `--until E`, `--from NAME` and `--save NAME` in any order
unfoldable pub measure_order : List (List ℕ) → Option MeasureOrder
measure_order words = given (run_order words) (λ order. unless_stopped order.stop_after order)
