-- An option of `run` with its value: what is known before it is read, and after.
use Rattle.std.proofs.Common.{◌≡◌, ℕ, List, ◌++◌, codes, Option, Some, None, refl, sym, subst, ◌∙◌}
use Rattle.std.specs.Str.{bytes_eq}
use Rattle.std.proofs.lemmas.Option.{none-some}
use Rattle.std.proofs.lemmas.Slice.Eq.{bytes_eq-Decides}
use Rattle.spin_model.specs.Limits.{every_take, last_epoch}
use Rattle.command_words.specs.Words.{number_word, file_word, name_word}
use Rattle.command_words.specs.RunWords.{RunOption, Workers, Pieces, Until, From, Save, StopAfter, name_of, if_same}
use Rattle.command_words.specs.RunReading.{RunWords, with_option}
use Rattle.command_words.proofs.SaidOnce.{once-some, map-some, Adds, by-test}

-- what is known before and after items that name these run files and give these values
pub record AddsAll (said : RunWords) (names : List (List ℕ)) (values : RunOption → List (List ℕ)) (later : RunWords) : Type 0 where
  pub run : Adds name_word said.run names later.run
  pub workers : Adds (number_word 1 64) said.workers (values Workers) later.workers
  pub pieces : Adds (number_word 1 16) said.pieces (values Pieces) later.pieces
  pub until : Adds (number_word 0 last_epoch) said.until (values Until) later.until
  pub from : Adds file_word said.from (values From) later.from
  pub save : Adds file_word said.save (values Save) later.save
  pub stop_after : Adds (number_word 0 every_take) said.stop_after (values StopAfter) later.stop_after

abbrev pub with_value : RunOption → List ℕ → (RunOption → List (List ℕ)) → RunOption → List (List ℕ)
with_value other value values option = if_same option other value ++ values option

-- what waits has no part in it
pub not-waiting : (said : RunWords) (waiting : Option (List ℕ)) (names : List (List ℕ)) (values : RunOption → List (List ℕ)) (later : RunWords)
    → AddsAll (record said { waiting = waiting }) names values later → AddsAll said names values later
not-waiting said waiting names values later a =
    record { run = a.run; workers = a.workers; pieces = a.pieces; until = a.until; from = a.from; save = a.save; stop_after = a.stop_after }

pub record Follows (said : RunWords) (names : List (List ℕ)) (values : RunOption → List (List ℕ)) (later mid : RunWords) : Type 0 where
  pub waiting : mid.waiting ≡ None
  pub adds : AddsAll said names values later

pub option-adds : (option : RunOption) (value : List ℕ) (said mid : RunWords) (names : List (List ℕ)) (values : RunOption → List (List ℕ)) (later : RunWords)
    → with_option said (name_of option) value ≡ Some mid → AddsAll mid names values later → Follows said names (with_value option value values) later mid
unfolding with_option
option-adds Workers value said mid names values later told adds =
    let first = once-some said.workers _ mid told in
    let read = map-some _ _ mid first.1 in
    subst (λ (m : RunWords). AddsAll m names values later → Follows said names (with_value Workers value values) later m) read.2
    (λ a. record { waiting = refl; adds = record { run = a.run; workers = (read.0, first.0, read.1, a.workers); pieces = a.pieces; until = a.until; from = a.from; save = a.save; stop_after = a.stop_after } })
    adds
option-adds Pieces value said mid names values later told adds =
    let first = once-some said.pieces _ mid told in
    let read = map-some _ _ mid first.1 in
    subst (λ (m : RunWords). AddsAll m names values later → Follows said names (with_value Pieces value values) later m) read.2
    (λ a. record { waiting = refl; adds = record { run = a.run; workers = a.workers; pieces = (read.0, first.0, read.1, a.pieces); until = a.until; from = a.from; save = a.save; stop_after = a.stop_after } })
    adds
option-adds Until value said mid names values later told adds =
    let first = once-some said.until _ mid told in
    let read = map-some _ _ mid first.1 in
    subst (λ (m : RunWords). AddsAll m names values later → Follows said names (with_value Until value values) later m) read.2
    (λ a. record { waiting = refl; adds = record { run = a.run; workers = a.workers; pieces = a.pieces; until = (read.0, first.0, read.1, a.until); from = a.from; save = a.save; stop_after = a.stop_after } })
    adds
option-adds From value said mid names values later told adds =
    let first = once-some said.from _ mid told in
    let read = map-some _ _ mid first.1 in
    subst (λ (m : RunWords). AddsAll m names values later → Follows said names (with_value From value values) later m) read.2
    (λ a. record { waiting = refl; adds = record { run = a.run; workers = a.workers; pieces = a.pieces; until = a.until; from = (read.0, first.0, read.1, a.from); save = a.save; stop_after = a.stop_after } })
    adds
option-adds Save value said mid names values later told adds =
    let first = once-some said.save _ mid told in
    let read = map-some _ _ mid first.1 in
    subst (λ (m : RunWords). AddsAll m names values later → Follows said names (with_value Save value values) later m) read.2
    (λ a. record { waiting = refl; adds = record { run = a.run; workers = a.workers; pieces = a.pieces; until = a.until; from = a.from; save = (read.0, first.0, read.1, a.save); stop_after = a.stop_after } })
    adds
option-adds StopAfter value said mid names values later told adds =
    let first = once-some said.stop_after _ mid told in
    let read = map-some _ _ mid first.1 in
    subst (λ (m : RunWords). AddsAll m names values later → Follows said names (with_value StopAfter value values) later m) read.2
    (λ a. record { waiting = refl; adds = record { run = a.run; workers = a.workers; pieces = a.pieces; until = a.until; from = a.from; save = a.save; stop_after = (read.0, first.0, read.1, a.stop_after) } })
    adds

pub record Reads (option : RunOption) (value : List ℕ) (said : RunWords) (names : List (List ℕ)) (values : RunOption → List (List ℕ)) (later : RunWords) : Type 0 where
  pub mid : RunWords
  pub told : with_option said (name_of option) value ≡ Some mid
  pub waiting : mid.waiting ≡ None
  pub adds : AddsAll mid names values later

pub option-reads : (option : RunOption) (value : List ℕ) (said : RunWords) (names : List (List ℕ)) (values : RunOption → List (List ℕ)) (later : RunWords)
    → AddsAll said names (with_value option value values) later → Reads option value said names values later
unfolding with_option
option-reads Workers value said names values later a =
    record {
      mid = record said { waiting = None; workers = Some a.workers.0 };
      told = rw (a.workers.1, a.workers.2) refl;
      waiting = refl;
      adds = record { run = a.run; workers = a.workers.3; pieces = a.pieces; until = a.until; from = a.from; save = a.save; stop_after = a.stop_after };
    }
option-reads Pieces value said names values later a =
    record {
      mid = record said { waiting = None; pieces = Some a.pieces.0 };
      told = rw (a.pieces.1, a.pieces.2) refl;
      waiting = refl;
      adds = record { run = a.run; workers = a.workers; pieces = a.pieces.3; until = a.until; from = a.from; save = a.save; stop_after = a.stop_after };
    }
option-reads Until value said names values later a =
    record {
      mid = record said { waiting = None; until = Some a.until.0 };
      told = rw (a.until.1, a.until.2) refl;
      waiting = refl;
      adds = record { run = a.run; workers = a.workers; pieces = a.pieces; until = a.until.3; from = a.from; save = a.save; stop_after = a.stop_after };
    }
option-reads From value said names values later a =
    record {
      mid = record said { waiting = None; from = Some a.from.0 };
      told = rw (a.from.1, a.from.2) refl;
      waiting = refl;
      adds = record { run = a.run; workers = a.workers; pieces = a.pieces; until = a.until; from = a.from.3; save = a.save; stop_after = a.stop_after };
    }
option-reads Save value said names values later a =
    record {
      mid = record said { waiting = None; save = Some a.save.0 };
      told = rw (a.save.1, a.save.2) refl;
      waiting = refl;
      adds = record { run = a.run; workers = a.workers; pieces = a.pieces; until = a.until; from = a.from; save = a.save.3; stop_after = a.stop_after };
    }
option-reads StopAfter value said names values later a =
    record {
      mid = record said { waiting = None; stop_after = Some a.stop_after.0 };
      told = rw (a.stop_after.1, a.stop_after.2) refl;
      waiting = refl;
      adds = record { run = a.run; workers = a.workers; pieces = a.pieces; until = a.until; from = a.from; save = a.save; stop_after = a.stop_after.3 };
    }

-- a name that is read is one of the options
pub known : (said : RunWords) (name value : List ℕ) (mid : RunWords) → with_option said name value ≡ Some mid → (option : RunOption) × (name ≡ name_of option)
unfolding with_option
known said name value mid told =
    by-test (bytes_eq name (codes "--workers")) (λ s. (Workers, (bytes_eq-Decides name (codes "--workers")).0 s)) (λ a.
    by-test (bytes_eq name (codes "--pieces")) (λ s. (Pieces, (bytes_eq-Decides name (codes "--pieces")).0 s)) (λ b.
    by-test (bytes_eq name (codes "--until")) (λ s. (Until, (bytes_eq-Decides name (codes "--until")).0 s)) (λ c.
    by-test (bytes_eq name (codes "--from")) (λ s. (From, (bytes_eq-Decides name (codes "--from")).0 s)) (λ d.
    by-test (bytes_eq name (codes "--save")) (λ s. (Save, (bytes_eq-Decides name (codes "--save")).0 s)) (λ e.
    by-test (bytes_eq name (codes "--stop-after")) (λ s. (StopAfter, (bytes_eq-Decides name (codes "--stop-after")).0 s)) (λ f.
    let none : with_option said name value ≡ None = rw (a, b, c, d, e, f) refl in
    absurd (none-some mid (sym none ∙ told))))))))
