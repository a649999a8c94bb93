-- What the words of `run` say: the name of a run file, and options with their values, in any order.
use Rattle.std.specs.Prelude.{◌≡◌, ℕ, List, [], ◌∷◌, ◌++◌, if◌then◌else◌, codes, Option, Some, None, option_map, IsSome}
use Rattle.std.specs.List.{flat_map}
use Rattle.std.specs.Str.{bytes_eq}
use Rattle.spin_model.specs.Limits.{every_take, last_epoch}
use Rattle.command_words.specs.Words.{number_word, file_word, name_word}

-- a run: the name of its run file, the workers, the pieces that the planes of a sweep are cut into, the epoch to stop at
-- where it isn't the run file's, the checkpoint to go on from, the name to save the run's own under, and after how many
-- hand-outs of a slot it stops where it may stop between epochs
pub record RunOrder : Type 0 where
  pub run : List ℕ
  pub workers : ℕ
  pub pieces : ℕ
  pub until : Option ℕ
  pub from : Option (List ℕ)
  pub save : Option (List ℕ)
  pub stop_after : Option ℕ

-- the options
pub data RunOption : Type 0 where
  Workers : RunOption
  Pieces : RunOption
  Until : RunOption
  From : RunOption
  Save : RunOption
  StopAfter : RunOption

-- an option as it is written
abbrev pub name_of : RunOption → List ℕ
name_of Workers = codes "--workers"
name_of Pieces = codes "--pieces"
name_of Until = codes "--until"
name_of From = codes "--from"
name_of Save = codes "--save"
name_of StopAfter = codes "--stop-after"

-- one thing that the words say: the name of the run file; an option with its value in one word; an option with its value in
-- the next word
pub data RunItem : Type 0 where
  Named : List ℕ → RunItem
  Joined : RunOption → List ℕ → RunItem
  Apart : RunOption → List ℕ → RunItem

-- the words that say it
abbrev pub words_of : RunItem → List (List ℕ)
words_of (Named name) = name ∷ []
words_of (Joined option value) = (name_of option ++ codes "=" ++ value) ∷ []
words_of (Apart option value) = name_of option ∷ value ∷ []

-- the names of run files that items say
abbrev pub name_in : RunItem → List (List ℕ)
name_in (Named name) = name ∷ []
name_in (Joined option value) = []
name_in (Apart option value) = []

abbrev pub names_in : List RunItem → List (List ℕ)
names_in items = flat_map name_in items

-- a value, where it is of this option
abbrev pub if_same : RunOption → RunOption → List ℕ → List (List ℕ)
if_same option other value = if bytes_eq (name_of option) (name_of other) then value ∷ [] else []

-- the values that items give an option, as they are written
abbrev pub value_in : RunOption → RunItem → List (List ℕ)
value_in option (Named name) = []
value_in option (Joined other value) = if_same option other value
value_in option (Apart other value) = if_same option other value

abbrev pub values_in : RunOption → List RunItem → List (List ℕ)
values_in option items = flat_map (value_in option) items

-- what texts say of a thing that may be said once: the default where there is none, what the only one reads as, and nothing
-- where there are more
abbrev pub SayAtMostOnce : {A : Type 0} → (List ℕ → Option A) → A → List (List ℕ) → A → Type 0
SayAtMostOnce read default [] value = value ≡ default
SayAtMostOnce read default (text ∷ []) value = read text ≡ Some value
SayAtMostOnce read default (text ∷ second ∷ others) value = ⊥

-- the same of a thing that may be absent
abbrev pub MaySay : {A : Type 0} → (List ℕ → Option A) → List (List ℕ) → Option A → Type 0
MaySay read texts value = SayAtMostOnce (λ text. option_map Some (read text)) None texts value

-- the words ask for this run: they are `run` and the words of items, in any order; one item names the run file, and each option
-- is in one at most, with a value that it may have: 1 to 64 workers, 1 to 16 pieces, an epoch up to 1000000000, names of files,
-- up to every_take hand-outs; a run that may stop between epochs is saved
pub record SaysRun (words : List (List ℕ)) (order : RunOrder) : Type 0 where
  pub items : List RunItem
  pub written : words ≡ codes "run" ∷ flat_map words_of items
  pub run : names_in items ≡ order.run ∷ []
  pub name : name_word order.run ≡ Some order.run
  pub workers : SayAtMostOnce (number_word 1 64) 1 (values_in Workers items) order.workers
  pub pieces : SayAtMostOnce (number_word 1 16) 1 (values_in Pieces items) order.pieces
  pub until : MaySay (number_word 0 last_epoch) (values_in Until items) order.until
  pub from : MaySay file_word (values_in From items) order.from
  pub save : MaySay file_word (values_in Save items) order.save
  pub stop_after : MaySay (number_word 0 every_take) (values_in StopAfter items) order.stop_after
  pub saved : IsSome order.stop_after → IsSome order.save
