-- Several number words, one after the other.
use Rattle.std.proofs.Common.{◌≡◌, ℕ, zero, suc, ◌+◌, ◌-◌, ◌≤◌, List, [], ◌∷◌, ◌++◌, Some, None, refl, subst, arith, add-one, add-zero, add-suc}
use Rattle.command_words.specs.Words.{given, word_at, number_word, number_words}

pub number_words-zero : (low high : ℕ) (words : List (List ℕ)) (start : ℕ) → number_words low high words start 0 ≡ Some []
unfolding number_words
number_words-zero low high words start = refl

pub number_words-more : (low high : ℕ) (words : List (List ℕ)) (start n : ℕ) → number_words low high words start (n + 1)
    ≡ given (number_words low high words start n) (λ values. given (number_word low high (word_at words (start + n))) (λ value. Some (values ++ value ∷ [])))
unfolding number_words
number_words-more low high words start n = rw add-one refl

none-further : (low high : ℕ) (words : List (List ℕ)) (start n m : ℕ) → number_words low high words start n ≡ None → number_words low high words start (n + m) ≡ None
unfolding number_words
none-further low high words start n zero none = rw add-zero none
none-further low high words start n (suc m) none = rw (add-suc, none-further low high words start n m none) refl

-- where one of them is no number, there are no values
pub number_words-past : (low high : ℕ) (words : List (List ℕ)) (start n all : ℕ) → n ≤ all → number_words low high words start n ≡ None → number_words low high words start all ≡ None
number_words-past low high words start n all within none =
    let whole : n + (all - n) ≡ all = omega arith in
    subst (λ k. number_words low high words start k ≡ None) whole (none-further low high words start n (all - n) none)
