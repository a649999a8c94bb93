-- The words of `run` and the items that they say: from the words, read from the left, to the items, and back.
use Rattle.std.proofs.Common.{arith, ◌≡◌, ℕ, ◌+◌, ◌<◌, Bool, true, false, nat_lt, if◌then◌else◌, List, [], ◌∷◌, ◌++◌, length, codes, Option, Some, None, refl, sym, ap, subst, ◌∙◌, length-append, append_assoc}
use Rattle.std.specs.Prelude.{slice_index_or}
use Rattle.std.specs.List.{fold, flat_map, position_or_len, before_first, after_first}
use Rattle.std.specs.Option.{option_to_list}
use Rattle.std.specs.Cmp.{unsigned_Decides}
use Rattle.std.proofs.lemmas.Bool.{ltb-true, lt-ltb}
use Rattle.std.proofs.lemmas.Option.{none-some, same_Some}
use Rattle.std.proofs.lemmas.List.Sums.{split_at_first, passes_at_first}
use Rattle.glass_edges.specs.FileNames.{is_file_name}
use Rattle.command_words.specs.Words.{is_option, name_word}
use Rattle.command_words.specs.RunWords.{RunOption, Workers, Pieces, Until, From, Save, StopAfter, RunItem, Named, Joined, Apart, name_of, words_of, names_in, values_in}
use Rattle.command_words.specs.RunReading.{RunWords, once, with_option, is_equals, with_option_word, with_run, with_next, with_word}
use Rattle.command_words.proofs.SaidWords.{none-further}
use Rattle.command_words.proofs.SaidOnce.{once-some, if-some, name-is}
use Rattle.command_words.proofs.SaidOptions.{AddsAll, with_value, not-waiting, option-adds, option-reads, known}

-- ---- from the words to the items

some-first : (r : Option RunWords) (words : List (List ℕ)) (later : RunWords) → fold with_word r words ≡ Some later
    → (mid : RunWords) × (r ≡ Some mid) × (fold with_word (Some mid) words ≡ Some later)
some-first None words later h = absurd (none-some later (sym (none-further words) ∙ h))
some-first (Some mid) words later h = (mid, refl, h)

-- the words are those of items, which lead from what was said to what is said later
pub record IsSplit (words : List (List ℕ)) (said later : RunWords) : Type 0 where
  pub items : List RunItem
  pub written : words ≡ flat_map words_of items
  pub adds : AddsAll said (names_in items) (λ option. values_in option items) later

-- of an option that is known, the words behind its value
valued : (form : RunOption → List ℕ → RunItem) (option : RunOption) (value : List ℕ) (first words : List (List ℕ)) (said mid later : RunWords)
    → first ≡ words_of (form option value)
    → ((items : List RunItem) → AddsAll said (names_in items) (with_value option value (λ o. values_in o items)) later
    → AddsAll said (names_in (form option value ∷ items)) (λ o. values_in o (form option value ∷ items)) later)
    → with_option said (name_of option) value ≡ Some mid → IsSplit (option_to_list mid.waiting ++ words) mid later
    → IsSplit (first ++ words) said later
valued form option value first words said mid later is same told rest =
    let follows = option-adds option value said mid (names_in rest.items) (λ o. values_in o rest.items) later told rest.adds in
    let written : words ≡ flat_map words_of rest.items = subst (λ (w : Option (List ℕ)). option_to_list w ++ words ≡ flat_map words_of rest.items) follows.waiting rest.written in
    record {
      items = form option value ∷ rest.items;
      written = ap (λ ws. ws ++ words) is ∙ ap (λ ws. words_of (form option value) ++ ws) written;
      adds = same rest.items follows.adds;
    }

-- an equals sign ends the name of an option
equals-splits : (word : List ℕ) → position_or_len is_equals word < length word → word ≡ before_first is_equals word ++ codes "=" ++ after_first is_equals word
equals-splits word within =
    let at : slice_index_or word (position_or_len is_equals word) 0 ≡ 61 = (unsigned_Decides (slice_index_or word (position_or_len is_equals word) 0) 61).0 (passes_at_first is_equals word 0 within) in
    split_at_first is_equals word 0 within
    ∙ ap (λ b. before_first is_equals word ++ (b ∷ after_first is_equals word)) at
    ∙ sym (append_assoc (before_first is_equals word) (codes "=") (after_first is_equals word))

joined-word : (word : List ℕ) (words : List (List ℕ)) (said later : RunWords)
    → ((mid : RunWords) → fold with_word (Some mid) words ≡ Some later → IsSplit (option_to_list mid.waiting ++ words) mid later)
    → position_or_len is_equals word < length word
    → fold with_word (with_option said (before_first is_equals word) (after_first is_equals word)) words ≡ Some later → IsSplit (word ∷ words) said later
joined-word word words said later more within h =
    let name = before_first is_equals word in
    let value = after_first is_equals word in
    let next = some-first (with_option said name value) words later h in
    let is = known said name value next.0 next.1 in
    let spelled : word ≡ name_of is.0 ++ codes "=" ++ value = equals-splits word within ∙ ap (λ n. n ++ codes "=" ++ value) is.1 in
    valued Joined is.0 value (word ∷ []) words said next.0 later (ap (λ w. w ∷ []) spelled) (λ items a. same-joined is.0 value items said later a)
    (ap (λ n. with_option said n value) (sym is.1) ∙ next.1) (more next.0 next.2)
  where
    same-joined : (option : RunOption) (value : List ℕ) (items : List RunItem) (said later : RunWords)
        → AddsAll said (names_in items) (with_value option value (λ o. values_in o items)) later
        → AddsAll said (names_in (Joined option value ∷ items)) (λ o. values_in o (Joined option value ∷ items)) later
    same-joined option value items said later a = a

option-word : (word : List ℕ) (words : List (List ℕ)) (said later : RunWords)
    → ((mid : RunWords) → fold with_word (Some mid) words ≡ Some later → IsSplit (option_to_list mid.waiting ++ words) mid later)
    → fold with_word (with_option_word said word) words ≡ Some later → IsSplit (word ∷ words) said later
unfolding with_option_word
option-word word words said later more h = go (nat_lt (position_or_len is_equals word) (length word)) refl h
  where
    go : (b : Bool) → nat_lt (position_or_len is_equals word) (length word) ≡ b
        → fold with_word (if b then with_option said (before_first is_equals word) (after_first is_equals word) else Some (record said { waiting = Some word })) words ≡ Some later
        → IsSplit (word ∷ words) said later
    go true within h = joined-word word words said later more (ltb-true (position_or_len is_equals word) (length word) within) h
    go false within h =
        let rest = more (record said { waiting = Some word }) h in
        record { items = rest.items; written = rest.written; adds = not-waiting said (Some word) _ _ later rest.adds }

name-word : (word : List ℕ) (words : List (List ℕ)) (said later : RunWords)
    → ((mid : RunWords) → fold with_word (Some mid) words ≡ Some later → IsSplit (option_to_list mid.waiting ++ words) mid later)
    → said.waiting ≡ None → is_option word ≡ false → fold with_word (with_run said word) words ≡ Some later → IsSplit (word ∷ words) said later
unfolding with_run
name-word word words said later more rests is h =
    let next = some-first (once said.run (if is_file_name word then Some (record said { run = Some word }) else None)) words later h in
    let first = once-some said.run _ next.0 next.1 in
    let lawful = if-some (is_file_name word) (Some (record said { run = Some word })) next.0 first.1 in
    let mid-is : ◌≡◌ {A = RunWords} (record said { run = Some word }) next.0 = same_Some (record said { run = Some word }) next.0 lawful.1 in
    let rest = subst (λ (m : RunWords). fold with_word (Some m) words ≡ Some later → IsSplit (option_to_list m.waiting ++ words) m later) (sym mid-is) (more next.0)
    (subst (λ (m : RunWords). fold with_word (Some m) words ≡ Some later) (sym mid-is) next.2) in
    let named : name_word word ≡ Some word = rw (lawful.0, is) refl in
    let written : words ≡ flat_map words_of rest.items = subst (λ (w : Option (List ℕ)). option_to_list w ++ words ≡ flat_map words_of rest.items) rests rest.written in
    let a = rest.adds in
    record {
      items = Named word ∷ rest.items;
      -- the words of the rest are named, since they would be found with how the rest was split written out
      written = ap (λ ws. word ∷ ws) {y = flat_map words_of rest.items} written;
      adds = record { run = (word, first.0, named, a.run); workers = a.workers; pieces = a.pieces; until = a.until; from = a.from; save = a.save; stop_after = a.stop_after };
    }

next-word : (word : List ℕ) (words : List (List ℕ)) (said later : RunWords)
    → ((mid : RunWords) → fold with_word (Some mid) words ≡ Some later → IsSplit (option_to_list mid.waiting ++ words) mid later)
    → (waiting : Option (List ℕ)) → said.waiting ≡ waiting → fold with_word (with_next waiting said word) words ≡ Some later
    → IsSplit (option_to_list waiting ++ word ∷ words) said later
next-word word words said later more (Some name) rests h =
    let next = some-first (with_option said name word) words later h in
    let is = known said name word next.0 next.1 in
    valued Apart is.0 word (name ∷ word ∷ []) words said next.0 later (ap (λ n. n ∷ word ∷ []) is.1) (λ items a. a)
    (ap (λ n. with_option said n word) (sym is.1) ∙ next.1) (more next.0 next.2)
next-word word words said later more None rests h = go (is_option word) refl h
  where
    go : (b : Bool) → is_option word ≡ b → fold with_word (if b then with_option_word said word else with_run said word) words ≡ Some later → IsSplit (word ∷ words) said later
    go true is h = option-word word words said later more h
    go false is h = name-word word words said later more rests is h

pub split-words : (words : List (List ℕ)) (said later : RunWords) → later.waiting ≡ None → fold with_word (Some said) words ≡ Some later
    → IsSplit (option_to_list said.waiting ++ words) said later
split-words [] said later done h =
    let same : said ≡ later = same_Some said later h in
    subst (λ (l : RunWords). IsSplit (option_to_list said.waiting ++ []) said l) same
    (record {
      items = [];
      written = ap (λ (w : Option (List ℕ)). option_to_list w ++ []) (ap (λ (l : RunWords). l.waiting) same ∙ done);
      adds = record { run = refl; workers = refl; pieces = refl; until = refl; from = refl; save = refl; stop_after = refl };
    })
split-words (word ∷ words) said later done h = next-word word words said later (λ mid told. split-words words mid later done told) said.waiting refl h

-- ---- from the items to the words

-- an option that waits for its value
apart-waits : (option : RunOption) (said : RunWords) → with_next None said (name_of option) ≡ Some (record said { waiting = Some (name_of option) })
unfolding with_option_word
apart-waits Workers said = refl
apart-waits Pieces said = refl
apart-waits Until said = refl
apart-waits From said = refl
apart-waits Save said = refl
apart-waits StopAfter said = refl

longer : (n : ℕ) (name rest : List ℕ) → length name ≡ n → nat_lt n (length (name ++ 61 ∷ rest)) ≡ true
longer n name rest long = let long2 : length (name ++ 61 ∷ rest) ≡ length name + (1 + length rest) = rw length-append (omega arith) in lt-ltb n (length (name ++ 61 ∷ rest)) (omega (arith, long, long2))

joined-reads : (option : RunOption) (value : List ℕ) (said : RunWords) → with_next None said (name_of option ++ codes "=" ++ value) ≡ with_option said (name_of option) value
unfolding with_option_word
joined-reads Workers value said = rw (longer 9 (codes "--workers") value refl) refl
joined-reads Pieces value said = rw (longer 8 (codes "--pieces") value refl) refl
joined-reads Until value said = rw (longer 7 (codes "--until") value refl) refl
joined-reads From value said = rw (longer 6 (codes "--from") value refl) refl
joined-reads Save value said = rw (longer 6 (codes "--save") value refl) refl
joined-reads StopAfter value said = rw (longer 12 (codes "--stop-after") value refl) refl

named-reads : (said : RunWords) (name x : List ℕ) → said.run ≡ None → name_word name ≡ Some x → with_next None said name ≡ Some (record said { run = Some x })
unfolding with_run
named-reads said name x free is =
    let parts = name-is name x is in
    rw (parts.1, free, parts.0) (ap (λ n. Some (record said { run = Some n })) (sym parts.2))

pub read-items : (items : List RunItem) (said later : RunWords) → said.waiting ≡ None → later.waiting ≡ None
    → AddsAll said (names_in items) (λ option. values_in option items) later → fold with_word (Some said) (flat_map words_of items) ≡ Some later
read-items [] said later rests done a =
    λ i. Some (record {
      run = sym a.run i;
      waiting = (rests ∙ sym done) i;
      workers = sym a.workers i;
      pieces = sym a.pieces i;
      until = sym a.until i;
      from = sym a.from i;
      save = sym a.save i;
      stop_after = sym a.stop_after i;
    })
read-items (Named name ∷ items) said later rests done a =
    let x = a.run.0 in
    ap (λ w. fold with_word (with_next w said name) (flat_map words_of items)) rests
    ∙ ap (λ s. fold with_word s (flat_map words_of items)) (named-reads said name x a.run.1 a.run.2)
    ∙ read-items items (record said { run = Some x }) later rests done
    (record { run = a.run.3; workers = a.workers; pieces = a.pieces; until = a.until; from = a.from; save = a.save; stop_after = a.stop_after })
read-items (Joined option value ∷ items) said later rests done a =
    let r = option-reads option value said (names_in items) (λ o. values_in o items) later
    (record { run = a.run; workers = a.workers; pieces = a.pieces; until = a.until; from = a.from; save = a.save; stop_after = a.stop_after }) in
    ap (λ w. fold with_word (with_next w said (name_of option ++ codes "=" ++ value)) (flat_map words_of items)) rests
    ∙ ap (λ s. fold with_word s (flat_map words_of items)) (joined-reads option value said ∙ r.told)
    ∙ read-items items r.mid later r.waiting done r.adds
read-items (Apart option value ∷ items) said later rests done a =
    let waits : RunWords = record said { waiting = Some (name_of option) } in
    let r = option-reads option value waits (names_in items) (λ o. values_in o items) later
    (record { run = a.run; workers = a.workers; pieces = a.pieces; until = a.until; from = a.from; save = a.save; stop_after = a.stop_after }) in
    ap (λ w. fold with_word (with_word (with_next w said (name_of option)) value) (flat_map words_of items)) rests
    ∙ ap (λ s. fold with_word (with_word s value) (flat_map words_of items)) (apart-waits option said)
    ∙ ap (λ s. fold with_word s (flat_map words_of items)) r.told
    ∙ read-items items r.mid later r.waiting done r.adds
