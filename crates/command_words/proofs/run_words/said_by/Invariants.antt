use Rattle.std.proofs.Common.{◌≡◌, Some, take}
use Rattle.std.specs.List.{fold}
use Rattle.command_words.specs.RunReading.{with_word, nothing_said}
use Rattle.command_words.specs.ReadCommand.{read_said, AreLawfulWords}
use Rattle.command_words.specs.Words.{texts}
use Rattle.command_words.proofs.run_words.said_by.Given as goal

abbrev pub invariant-words : goal.invariant-words
invariant-words l = record {
  told : fold with_word (Some nothing_said) (take l.k (texts l.words)) ≡ Some (read_said l.said);
  lawful : AreLawfulWords l.said;
}
