-- The words of `run`, read one after the other from the left. What they say is `SaysRun` of RunWords, and what is read here is
-- the same, by the clause `run_words` of the top call.
use Rattle.std.specs.Prelude.{ℕ, Bool, true, false, ◌==◌, nat_lt, if◌then◌else◌, List, length, drop, codes, Option, Some, None, option_map, unwrap_or}
use Rattle.std.specs.List.{fold, position_or_len, before_first, after_first}
use Rattle.std.specs.Str.{bytes_eq}
use Rattle.spin_model.specs.Limits.{every_take, last_epoch}
use Rattle.command_words.specs.RunWords.{RunOrder}
use Rattle.glass_edges.specs.FileNames.{is_file_name}
use Rattle.command_words.specs.Words.{given, number_word, is_option, file_word}

-- what they have said so far; an option without a value waits for the next word
pub record RunWords : Type 0 where
  pub run : Option (List ℕ)
  pub waiting : Option (List ℕ)
  pub workers : Option ℕ
  pub pieces : Option ℕ
  pub until : Option ℕ
  pub from : Option (List ℕ)
  pub save : Option (List ℕ)
  pub stop_after : Option ℕ

abbrev pub nothing_said : RunWords
nothing_said = record {
  run = None;
  waiting = None;
  workers = None;
  pieces = None;
  until = None;
  from = None;
  save = None;
  stop_after = None;
}

-- what comes of a thing that may be said once
abbrev pub once : {A B : Type 0} → Option A → Option B → Option B
once None next = next
once (Some earlier) next = None

-- an option with its value, each at most once: 1 to 64 workers, 1 to 16 pieces, an epoch up to 1000000000, names of files,
-- up to every_take hand-outs
abbrev pub with_workers : RunWords → List ℕ → Option RunWords
with_workers said value = once said.workers (option_map (λ n. record said { waiting = None; workers = Some n }) (number_word 1 64 value))

abbrev pub with_pieces : RunWords → List ℕ → Option RunWords
with_pieces said value = once said.pieces (option_map (λ n. record said { waiting = None; pieces = Some n }) (number_word 1 16 value))

abbrev pub with_until : RunWords → List ℕ → Option RunWords
with_until said value = once said.until (option_map (λ n. record said { waiting = None; until = Some n }) (number_word 0 last_epoch value))

abbrev pub with_from : RunWords → List ℕ → Option RunWords
with_from said value = once said.from (option_map (λ name. record said { waiting = None; from = Some name }) (file_word value))

abbrev pub with_save : RunWords → List ℕ → Option RunWords
with_save said value = once said.save (option_map (λ name. record said { waiting = None; save = Some name }) (file_word value))

abbrev pub with_stop_after : RunWords → List ℕ → Option RunWords
with_stop_after said value = once said.stop_after (option_map (λ n. record said { waiting = None; stop_after = Some n }) (number_word 0 every_take value))

unfoldable pub with_option : RunWords → List ℕ → List ℕ → Option RunWords
with_option said name value =
    if bytes_eq name (codes "--workers") then with_workers said value
    else if bytes_eq name (codes "--pieces") then with_pieces said value
    else if bytes_eq name (codes "--until") then with_until said value
    else if bytes_eq name (codes "--from") then with_from said value
    else if bytes_eq name (codes "--save") then with_save said value
    else if bytes_eq name (codes "--stop-after") then with_stop_after said value
    else None

-- 61 is the equals sign
abbrev pub is_equals : ℕ → Bool
is_equals b = b == 61

-- a word that is an option: its value stands behind the first equals sign, or is the next word
unfoldable pub with_option_word : RunWords → List ℕ → Option RunWords
with_option_word said word =
    if nat_lt (position_or_len is_equals word) (length word)
    then with_option said (before_first is_equals word) (after_first is_equals word)
    else Some (record said { waiting = Some word })

-- a word that is no option names the run file
unfoldable pub with_run : RunWords → List ℕ → Option RunWords
with_run said word = once said.run (if is_file_name word then Some (record said { run = Some word }) else None)

-- the next word, which is taken as it stands where an option waits for it
abbrev pub with_next : Option (List ℕ) → RunWords → List ℕ → Option RunWords
with_next (Some name) said word = with_option said name word
with_next None said word = if is_option word then with_option_word said word else with_run said word

abbrev pub with_word : Option RunWords → List ℕ → Option RunWords
with_word None word = None
with_word (Some said) word = with_next said.waiting said word

-- what all of them have said
unfoldable pub said_by : List (List ℕ) → Option RunWords
said_by words = fold with_word (Some nothing_said) words

-- a run that may stop between epochs saves where it came to
abbrev pub is_kept : Option ℕ → Option (List ℕ) → Bool
is_kept (Some takes) None = false
is_kept stop_after save = true

-- the run file must be named, and no option may wait; a run that may stop must be saved; there is one worker and one piece
-- where nothing else is said
abbrev pub order_in : Option (List ℕ) → Option (List ℕ) → RunWords → Option RunOrder
order_in (Some run) None said =
    if is_kept said.stop_after said.save then
    Some (record {
      run = run;
      workers = unwrap_or said.workers 1;
      pieces = unwrap_or said.pieces 1;
      until = said.until;
      from = said.from;
      save = said.save;
      stop_after = said.stop_after;
    })
    else None
order_in _ _ said = None

-- `run RUN` with `--workers N`, `--pieces P`, `--until E`, `--from NAME`, `--save NAME` and `--stop-after N` in any order
unfoldable pub run_order : List (List ℕ) → Option RunOrder
run_order words = given (said_by (drop 1 words)) (λ said. order_in said.run said.waiting said)
