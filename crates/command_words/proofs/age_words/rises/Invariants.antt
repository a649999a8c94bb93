use Rattle.std.proofs.Common.{◌≡◌, true}
use Rattle.command_words.specs.AgeWords.{rises_to}
use Rattle.command_words.proofs.age_words.rises.Given as goal

abbrev pub invariant-times : goal.invariant-times
invariant-times l = rises_to l.times l.k ≡ true
