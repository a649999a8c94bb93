-- Values of which each is said at most once.
use Rattle.std.proofs.Common.{◌≡◌, ℕ, Bool, true, false, ◌&&◌, not, if◌then◌else◌, List, [], ◌∷◌, Option, Some, None, refl, sym, ap, ◌∙◌}
use Rattle.std.specs.Prelude.{option_map, unwrap_or}
use Rattle.std.proofs.lemmas.Option.{none-some, same_Some}
use Rattle.glass_edges.specs.FileNames.{is_file_name}
use Rattle.command_words.specs.Words.{given, is_option, name_word}
use Rattle.command_words.specs.RunWords.{SayAtMostOnce, MaySay}
use Rattle.command_words.specs.RunReading.{once}

-- ---- options of values

pub once-some : {A B : Type 0} (o : Option A) (next : Option B) (m : B) → once o next ≡ Some m → (o ≡ None) × (next ≡ Some m)
once-some None next m h = (refl, h)
once-some (Some x) next m h = absurd (none-some m h)

pub map-some : {A B : Type 0} (f : A → B) (o : Option A) (m : B) → option_map f o ≡ Some m → (x : A) × (o ≡ Some x) × (f x ≡ m)
map-some f None m h = absurd (none-some m h)
map-some f (Some x) m h = (x, refl, same_Some (f x) m h)

pub given-some : {A B : Type 0} (o : Option A) (f : A → Option B) (m : B) → given o f ≡ Some m → (x : A) × (o ≡ Some x) × (f x ≡ Some m)
given-some None f m h = absurd (none-some m h)
given-some (Some x) f m h = (x, refl, h)

pub if-some : {A : Type 0} (b : Bool) (o : Option A) (m : A) → (if b then o else None) ≡ Some m → (b ≡ true) × (o ≡ Some m)
if-some true o m h = (refl, h)
if-some false o m h = absurd (none-some m h)

-- ---- a value that is said at most once

-- what is known of a value before and after some texts
abbrev pub Adds : {A : Type 0} → (List ℕ → Option A) → Option A → List (List ℕ) → Option A → Type 0
Adds read before [] after = after ≡ before
Adds {A} read before (text ∷ texts) after = (x : A) × (before ≡ None) × (read text ≡ Some x) × Adds read (Some x) texts after

pub said-once : {A : Type 0} (read : List ℕ → Option A) (default : A) (texts : List (List ℕ)) (after : Option A)
    → Adds read None texts after → SayAtMostOnce read default texts (unwrap_or after default)
said-once read default [] after a = ap (λ o. unwrap_or o default) a
said-once read default (text ∷ []) after a = a.2 ∙ ap (λ o. Some (unwrap_or o default)) (sym a.3)
said-once read default (text ∷ second ∷ others) after a = none-some a.0 (sym a.3.1)

pub may-be-said : {A : Type 0} (read : List ℕ → Option A) (texts : List (List ℕ)) (after : Option A) → Adds read None texts after → MaySay read texts after
may-be-said read [] after a = a
may-be-said read (text ∷ []) after a = ap (option_map Some) a.2 ∙ ap Some (sym a.3)
may-be-said read (text ∷ second ∷ others) after a = none-some a.0 (sym a.3.1)

pub once-adds : {A : Type 0} (read : List ℕ → Option A) (default : A) (texts : List (List ℕ)) (value : A)
    → SayAtMostOnce read default texts value → (after : Option A) × (unwrap_or after default ≡ value) × Adds read None texts after
once-adds read default [] value said = (None, sym said, refl)
once-adds read default (text ∷ []) value said = (Some value, refl, (value, refl, said, refl))
once-adds read default (text ∷ second ∷ others) value said = absurd said

pub may-adds : {A : Type 0} (read : List ℕ → Option A) (texts : List (List ℕ)) (value : Option A) → MaySay read texts value → Adds read None texts value
may-adds read [] value said = said
may-adds read (text ∷ []) value said = let m = map-some Some (read text) value said in (m.0, refl, m.1, sym m.2)
may-adds read (text ∷ second ∷ others) value said = absurd said

pub name-is : (name x : List ℕ) → name_word name ≡ Some x → (is_file_name name ≡ true) × (is_option name ≡ false) × (x ≡ name)
name-is name x h = go (is_file_name name) (is_option name) h
  where
    go : (a b : Bool) → (if a && not b then Some name else None) ≡ Some x → (a ≡ true) × (b ≡ false) × (x ≡ name)
    go true false h = (refl, refl, sym (same_Some name x h))
    go true true h = absurd (none-some x h)
    go false b h = absurd (none-some x h)

pub one-name : (names : List (List ℕ)) (after : Option (List ℕ)) (run : List ℕ) → Adds name_word None names after → after ≡ Some run
    → (names ≡ run ∷ []) × (name_word run ≡ Some run)
one-name [] after run a is = absurd (none-some run (sym a ∙ is))
one-name (name ∷ []) after run a is =
    let x-is : a.0 ≡ run = same_Some a.0 run (sym a.3 ∙ is) in
    let name-run : name ≡ run = sym (name-is name a.0 a.2).2 ∙ x-is in
    (ap (λ n. n ∷ []) name-run, ap name_word (sym name-run) ∙ a.2 ∙ ap Some x-is)
one-name (name ∷ second ∷ others) after run a is = absurd (none-some a.0 (sym a.3.1))

-- a test, by its two answers
pub by-test : {P : Type 0} (b : Bool) → (b ≡ true → P) → (b ≡ false → P) → P
by-test {P} b holds fails = go b refl
  where
    go : (t : Bool) → b ≡ t → P
    go true e = holds e
    go false e = fails e
