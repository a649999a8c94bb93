-- The words of `run`, one after the other.
use Rattle.std.proofs.Common.{◌≡◌, ℕ, List, [], ◌∷◌, take, drop, Some, None, refl, sym, ap, ◌∙◌}
use Rattle.std.specs.List.{fold}
use Rattle.std.proofs.lemmas.List.{take-append-drop}
use Rattle.std.proofs.lemmas.List.Sums.{fold-append}
use Rattle.command_words.specs.RunReading.{with_word, nothing_said}

pub none-further : (words : List (List ℕ)) → fold with_word None words ≡ None
none-further [] = refl
none-further (word ∷ words) = none-further words

-- where the first words are no order, no more of them are one
pub none-said : (words : List (List ℕ)) (k : ℕ) → fold with_word (Some nothing_said) (take k words) ≡ None → fold with_word (Some nothing_said) words ≡ None
none-said words k none =
    ap (fold with_word (Some nothing_said)) (sym (take-append-drop k words))
    ∙ fold-append with_word (Some nothing_said) (take k words) (drop k words)
    ∙ ap (λ s. fold with_word s (drop k words)) none
    ∙ none-further (drop k words)
