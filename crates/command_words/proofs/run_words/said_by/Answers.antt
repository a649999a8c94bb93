use Rattle.std.proofs.Common.{rules, arith, ◌≡◌, ◌+◌, ◌<◌, [], take, length, option_map, Some, None, sym, ap, ◌∙◌}
use Rattle.std.specs.List.{fold}
use Rattle.std.proofs.lemmas.List.{length-map}
use Rattle.std.proofs.lemmas.List.Sums.{fold_more}
use Rattle.command_words.specs.RunReading.{with_word, nothing_said, said_by}
use Rattle.command_words.specs.ReadCommand.{read_said}
use Rattle.command_words.specs.Words.{texts, word_at}
use Rattle.command_words.proofs.SaidWords.{none-said}
use Rattle.command_words.proofs.run_words.said_by.Goals as goal

pub words-preserved : goal.words-preserved
words-preserved c =
    let all = texts c.args.words.now in
    let within : c.words.k < length all = rw length-map (search (rules, arith)) in
    record {
      told = fold_more with_word (Some nothing_said) all c.words.k [] within
          ∙ ap (λ s. with_word s (word_at all c.words.k)) c.words.invariant.told
          ∙ ap (with_word (Some (read_said c.words.said))) (sym c.word_at.ensures)
          ∙ sym c.with_word.ensures.value ∙ ap (option_map read_said) c.in_ok-said.was;
      lawful = search rules;
    }

pub returns-in_err-said-clause-value : goal.returns-in_err-said-clause-value
unfolding said_by
returns-in_err-said-clause-value c =
    let all = texts c.args.words.now in
    let within : c.words.k < length all = rw length-map (search (rules, arith)) in
    let none : fold with_word (Some nothing_said) (take (c.words.k + 1) all) ≡ None =
    fold_more with_word (Some nothing_said) all c.words.k [] within
    ∙ ap (λ s. with_word s (word_at all c.words.k)) c.words.invariant.told
    ∙ ap (with_word (Some (read_said c.words.said))) (sym c.word_at.ensures)
    ∙ sym c.with_word.ensures.value ∙ ap (option_map read_said) c.in_err-said.was in
    search rules ∙ sym (none-said all (c.words.k + 1) none)
