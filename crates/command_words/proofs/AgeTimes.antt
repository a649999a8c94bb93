-- The times of an aging run, one after the other.
use Rattle.std.proofs.Common.{◌≡◌, ℕ, zero, suc, ◌+◌, ◌-◌, ◌<◌, ◌≤◌, true, false, ◌&&◌, nat_lt, List, [], ◌∷◌, ◌++◌, length, slice_index, All, Option, Some, None, refl, sym, ap, subst, ⊎_elim, arith, rules, add-zero, add-suc}
use Rattle.std.proofs.lemmas.Bool.{cases_lt, ltb-true, and_parts}
use Rattle.std.proofs.lemmas.Bool.Decides.{nat_tests}
use Rattle.std.proofs.lemmas.List.Elements.{All-nil, All-push}
use Rattle.std.proofs.lemmas.List.{length_push}
use Rattle.aging_run.specs.Aging.{AreTimes}
use Rattle.command_words.specs.AgeWords.{rises_to, rises}
use Rattle.command_words.specs.Words.{given, word_at, number_word, number_words}

-- ---- numbers that rise

pub rises-none : (times : List ℕ) → rises_to times 0 ≡ true
unfolding rises_to
rises-none times = refl

pub rises-more : (times : List ℕ) (n : ℕ) → rises_to times (n + 1) ≡ (rises_to times n && nat_lt (slice_index times n) (slice_index times (n + 1)))
unfolding rises_to
rises-more times n = let e : n + 1 ≡ suc n = omega arith in ap (rises_to times) e

none-further : (times : List ℕ) (n m : ℕ) → rises_to times n ≡ false → rises_to times (n + m) ≡ false
unfolding rises_to
none-further times n zero h = rw add-zero h
none-further times n (suc m) h = rw (add-suc, none-further times n m h) refl

-- where one of them doesn't rise, they don't
pub rises-past : (times : List ℕ) (n all : ℕ) → n ≤ all → rises_to times n ≡ false → rises_to times all ≡ false
rises-past times n all within h =
    let whole : n + (all - n) ≡ all = omega arith in
    subst (λ k. rises_to times k ≡ false) whole (none-further times n (all - n) h)

rises-each : (times : List ℕ) (n : ℕ) → rises_to times n ≡ true → (k : ℕ) → k < n → slice_index times k < slice_index times (k + 1)
unfolding rises_to
rises-each times zero h k below = absurd (omega arith)
rises-each times (suc n) h k below =
    let parts = and_parts (rises_to times n) (nat_lt (slice_index times n) (slice_index times (n + 1))) h in
    ⊎_elim
    (λ less. rises-each times n parts.0 k less)
    (λ least. let same : k ≡ n = omega arith in
    subst (λ m. slice_index times m < slice_index times (m + 1)) (sym same) (ltb-true (slice_index times n) (slice_index times (n + 1)) parts.1))
    (cases_lt k n)

-- ---- number words up to a limit

in-limit : (high : ℕ) (text : List ℕ) (value : ℕ) → number_word 0 high text ≡ Some value → value ≤ high
in-limit high text value h = grind (arith, nat_tests)

record Are (high n : ℕ) (values : List ℕ) : Type 0 where
  long : length values ≡ n
  each : All (λ v. v ≤ high) values

more-are : (high n : ℕ) (before : Option (List ℕ)) (word : Option ℕ) (values : List ℕ)
    → ((vs : List ℕ) → before ≡ Some vs → Are high n vs) → ((v : ℕ) → word ≡ Some v → v ≤ high)
    → given before (λ vs. given word (λ v. Some (vs ++ v ∷ []))) ≡ Some values → Are high (suc n) values
more-are high n None word values b w h = absurd (search rules)
more-are high n (Some vs) None values b w h = absurd (search rules)
more-are high n (Some vs) (Some v) values b w h =
    let before = b vs refl in
    let whole : vs ++ v ∷ [] ≡ values = search rules in
    let long : length (vs ++ v ∷ []) ≡ suc n = grind (arith, length_push, before.long) in
    subst (Are high (suc n)) whole (record { long = long; each = All-push (λ x. x ≤ high) vs v before.each (w v refl) })

numbers-are : (high : ℕ) (words : List (List ℕ)) (start n : ℕ) (values : List ℕ) → number_words 0 high words start n ≡ Some values → Are high n values
unfolding number_words
numbers-are high words start zero values h =
    let none : [] ≡ values = search rules in
    subst (Are high 0) none (record { long = refl; each = All-nil (λ x. x ≤ high) })
numbers-are high words start (suc n) values h =
    more-are high n (number_words 0 high words start n) (number_word 0 high (word_at words (start + n))) values
    (numbers-are high words start n) (in-limit high (word_at words (start + n))) h

-- ---- both

pub are-times : (words : List (List ℕ)) (n : ℕ) (times : List ℕ) → 1 ≤ n → n ≤ 32 → number_words 0 1000000 words 4 n ≡ Some times → rises times ≡ true → AreTimes times
are-times words n times some few read up =
    let are = numbers-are 1000000 words 4 n times read in
    record {
      some = omega (arith, are.long, some);
      few = omega (arith, are.long, few);
      each = are.each;
      rising = λ k below. rises-each times (length times - 1) up k (omega arith);
    }
