use Rattle.std.proofs.Common.{rules, arith, ◌≡◌, ◌+◌, ◌<◌, Some, None, length, sym, ◌∙◌, refl}
use Rattle.std.proofs.lemmas.List.{take_more_set}
use Rattle.command_words.specs.Words.{texts, word_at, number_word}
use Rattle.command_words.proofs.Numbers.{number_words-zero, number_words-more, number_words-past}
use Rattle.command_words.proofs.command_line.read_numbers.Goals as goal

pub words-init : goal.words-init
words-init c = number_words-zero _ _ _ _

pub returns-in-None : goal.returns-in-None
returns-in-None c =
    let word : number_word 0 c.args.high (word_at (texts c.args.words.now) (c.args.start + c.words.k)) ≡ None =
    rw (← c.word_at.ensures) (sym c.number_word.ensures ∙ c.in-None.is) in
    number_words-past _ _ _ _ (c.words.k + 1) _ (search (rules, arith))
    (number_words-more _ _ _ _ _ ∙ rw (c.words.invariant, word) refl)

pub words-preserved : goal.words-preserved
words-preserved c =
    let word : number_word 0 c.args.high (word_at (texts c.args.words.now) (c.args.start + c.words.k)) ≡ Some c.in-Some.value =
    rw (← c.word_at.ensures) (sym c.number_word.ensures ∙ c.in-Some.is) in
    let within : c.words.k < length c.words.values = search (rules, arith) in
    number_words-more _ _ _ _ _ ∙ rw (c.words.invariant, word, take_more_set c.words.values c.words.k c.in-Some.value within) refl
