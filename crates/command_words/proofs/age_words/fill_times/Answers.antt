use Rattle.std.proofs.Common.{rules, ◌≡◌, length, Some, sym, ◌∙◌}
use Rattle.command_words.specs.Words.{texts, number_words}
use Rattle.command_words.proofs.AgeTimes.{are-times}
use Rattle.command_words.proofs.age_words.fill_times.Goals as goal

pub returns-clause-lawful : goal.returns-clause-lawful
returns-clause-lawful c = λ up.
    let n = length c.args.times.now in
    let read : number_words 0 1000000 (texts c.args.words.now) 4 n ≡ Some c.read_numbers.new.values = search rules in
    are-times (texts c.args.words.now) n c.read_numbers.new.values c.requires.0 c.requires.1 read (sym c.rises.ensures ∙ up)
