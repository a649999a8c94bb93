-- What the words of `cross` say: the overlaps of the copies of two saved states.
use Rattle.std.specs.Prelude.{ℕ, ◌^◌, ◌-◌, ◌==◌, if◌then◌else◌, List, length, Option, Some, None}
use Rattle.command_words.specs.Words.{given, word_at, number_word, name_word}

-- the names of the run file and of the first state's checkpoint, and the second state's seed and checkpoint
pub record CrossOrder : Type 0 where
  pub run : List ℕ
  pub first : List ℕ
  pub seed : ℕ
  pub second : List ℕ

-- `cross RUN FIRST SEED SECOND`
unfoldable pub cross_order : List (List ℕ) → Option CrossOrder
cross_order words =
    if length words == 5 then
    given (name_word (word_at words 1)) (λ run.
    given (name_word (word_at words 2)) (λ first.
    given (number_word 0 (2 ^ 63 - 1) (word_at words 3)) (λ seed.
    given (name_word (word_at words 4)) (λ second.
    Some (record { run = run; first = first; seed = seed; second = second })))))
    else None
