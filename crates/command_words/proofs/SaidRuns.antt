-- The order of a run, as its words say it and as they are read from the left.
use Rattle.std.proofs.Common.{◌≡◌, ℕ, Bool, true, if◌then◌else◌, List, [], ◌∷◌, codes, Option, Some, None, refl, sym, ap, subst, ◌∙◌}
use Rattle.std.specs.Prelude.{option_map, unwrap_or, IsSome}
use Rattle.std.specs.List.{fold, flat_map}
use Rattle.std.proofs.lemmas.Bool.{true≢false}
use Rattle.std.proofs.lemmas.Option.{none-some, same_Some}
use Rattle.spin_model.specs.Limits.{every_take, last_epoch}
use Rattle.command_words.specs.Words.{given, number_word, word_at, file_word, name_word}
use Rattle.command_words.specs.RunWords.{RunOrder, Workers, Pieces, Until, From, Save, StopAfter, words_of, names_in, values_in, SaysRun}
use Rattle.command_words.specs.RunReading.{RunWords, nothing_said, with_word, said_by, is_kept, order_in, run_order}
use Rattle.command_words.proofs.SaidOnce.{given-some, if-some, Adds, said-once, may-be-said, once-adds, may-adds, one-name}
use Rattle.command_words.proofs.SaidItems.{split-words, read-items}

-- ---- the order

is-saved : (stop_after : Option ℕ) (save : Option (List ℕ)) → is_kept stop_after save ≡ true → IsSome stop_after → IsSome save
is-saved None save kept some = absurd (true≢false (sym some))
is-saved (Some takes) None kept some = absurd (true≢false (sym kept))
is-saved (Some takes) (Some name) kept some = refl

kept-from : (stop_after : Option ℕ) (save : Option (List ℕ)) → (IsSome stop_after → IsSome save) → is_kept stop_after save ≡ true
kept-from None save saved = refl
kept-from (Some takes) None saved = absurd (true≢false (sym (saved refl)))
kept-from (Some takes) (Some name) saved = refl

abbrev order_from : List ℕ → RunWords → RunOrder
order_from run said = record {
  run = run;
  workers = unwrap_or said.workers 1;
  pieces = unwrap_or said.pieces 1;
  until = said.until;
  from = said.from;
  save = said.save;
  stop_after = said.stop_after;
}

record IsOrder (run waiting : Option (List ℕ)) (said : RunWords) (order : RunOrder) : Type 0 where
  name : List ℕ
  run_is : run ≡ Some name
  rests : waiting ≡ None
  kept : is_kept said.stop_after said.save ≡ true
  order_is : order_from name said ≡ order

is-order : (run waiting : Option (List ℕ)) (said : RunWords) (order : RunOrder) → order_in run waiting said ≡ Some order → IsOrder run waiting said order
is-order None None said order h = absurd (none-some order h)
is-order None (Some waiting) said order h = absurd (none-some order h)
is-order (Some run) (Some waiting) said order h = absurd (none-some order h)
is-order (Some run) None said order h =
    let parts = if-some (is_kept said.stop_after said.save) (Some (order_from run said)) order h in
    record { name = run; run_is = refl; rests = refl; kept = parts.0; order_is = same_Some (order_from run said) order parts.1 }

-- what is read from the left is what the words say
pub run_order-said : (words : List (List ℕ)) (order : RunOrder) → word_at words 0 ≡ codes "run" → run_order words ≡ Some order → SaysRun words order
unfolding run_order said_by
run_order-said [] order first h = absurd (none-some order h)
run_order-said (word ∷ words) order first h =
    let read = given-some (fold with_word (Some nothing_said) words) (λ (s : RunWords). order_in s.run s.waiting s) order h in
    let later = read.0 in
    let o = is-order later.run later.waiting later order read.2 in
    let s = split-words words nothing_said later o.rests read.1 in
    let a = s.adds in
    let named = one-name (names_in s.items) later.run o.name a.run o.run_is in
    subst (λ (r : RunOrder). SaysRun (word ∷ words) r) o.order_is
    (record {
      items = s.items;
      written = ap (λ w. w ∷ words) first ∙ ap (λ ws. codes "run" ∷ ws) s.written;
      run = named.0;
      name = named.1;
      workers = said-once (number_word 1 64) 1 (values_in Workers s.items) later.workers a.workers;
      pieces = said-once (number_word 1 16) 1 (values_in Pieces s.items) later.pieces a.pieces;
      until = may-be-said (number_word 0 last_epoch) (values_in Until s.items) later.until a.until;
      from = may-be-said file_word (values_in From s.items) later.from a.from;
      save = may-be-said file_word (values_in Save s.items) later.save a.save;
      stop_after = may-be-said (number_word 0 every_take) (values_in StopAfter s.items) later.stop_after a.stop_after;
      saved = is-saved later.stop_after later.save o.kept;
    })

-- what the words say is read from the left
pub said-run_order : (words : List (List ℕ)) (order : RunOrder) → SaysRun words order → run_order words ≡ Some order
unfolding run_order said_by
said-run_order words order s =
    let workers = once-adds (number_word 1 64) 1 (values_in Workers s.items) order.workers s.workers in
    let pieces = once-adds (number_word 1 16) 1 (values_in Pieces s.items) order.pieces s.pieces in
    let later : RunWords = record {
      run = Some order.run;
      waiting = None;
      workers = workers.0;
      pieces = pieces.0;
      until = order.until;
      from = order.from;
      save = order.save;
      stop_after = order.stop_after;
    } in
    let named : Adds name_word None (names_in s.items) (Some order.run) =
    subst (λ (ns : List (List ℕ)). Adds name_word None ns (Some order.run)) (sym s.run) (order.run, refl, s.name, refl) in
    let read : fold with_word (Some nothing_said) (flat_map words_of s.items) ≡ Some later =
    read-items s.items nothing_said later refl refl
    (record {
      run = named;
      workers = workers.2;
      pieces = pieces.2;
      until = may-adds (number_word 0 last_epoch) (values_in Until s.items) order.until s.until;
      from = may-adds file_word (values_in From s.items) order.from s.from;
      save = may-adds file_word (values_in Save s.items) order.save s.save;
      stop_after = may-adds (number_word 0 every_take) (values_in StopAfter s.items) order.stop_after s.stop_after;
    }) in
    let same : order_from order.run later ≡ order =
    λ i. record {
      run = order.run;
      workers = workers.1 i;
      pieces = pieces.1 i;
      until = order.until;
      from = order.from;
      save = order.save;
      stop_after = order.stop_after;
    } in
    ap run_order s.written
    ∙ ap (λ (r : Option RunWords). given r (λ (l : RunWords). order_in l.run l.waiting l)) read
    ∙ ap (λ (b : Bool). if b then Some (order_from order.run later) else None) (kept-from order.stop_after order.save s.saved)
    ∙ ap Some same
