use Rattle.std.proofs.Common.{◌≡◌, Some, take}
use Rattle.command_words.specs.Words.{texts, number_words}
use Rattle.command_words.proofs.command_line.read_numbers.Given as goal

abbrev pub invariant-words : goal.invariant-words
invariant-words l = number_words 0 l.high (texts l.words) l.start l.k ≡ Some (take l.k l.values)
