use Rattle.std.proofs.Common.{sym, ◌∙◌}
use Rattle.command_words.specs.Words.{texts}
use Rattle.command_words.specs.CommandLine.{command_of}
use Rattle.glass_main.proofs.Completing.{completes}
use Rattle.glass_main.proofs.EncodedStarts.{request-starts, request-seconds}
use Rattle.glass_main.proofs.LawfulRequests.{request-lawful}
use Rattle.glass_main.proofs.ReadBytes.{done-of}
use Rattle.command_words.proofs.SaidCommands.{command_of-run, command_of-measure}
use Rattle.glass_main.proofs.top.glass.Goals as goal

pub returns-clause-complete : goal.returns-clause-complete
returns-clause-complete g c = completes _ _ _ _ _ _ _ c.answer-ending.ensures.ends c.status.ensures

pub returns-clause-run_words : goal.returns-clause-run_words
returns-clause-run_words g c = command_of-run (texts c.args.words.now)

pub returns-clause-measure_words : goal.returns-clause-measure_words
returns-clause-measure_words g c = command_of-measure (texts c.args.words.now)

pub returns-clause-lawful : goal.returns-clause-lawful
returns-clause-lawful g c = λ zero.
    let done = done-of c.answer-ending.result (sym c.status.ensures ∙ zero) in
    request-lawful (texts c.args.words.now) (g.H.Shelf.holds c.args.shelf.now) (c.answer-ending.ensures.bytes done)

pub returns-clause-bytes : goal.returns-clause-bytes
returns-clause-bytes g c = λ zero. c.answer-ending.ensures.bytes (done-of c.answer-ending.result (sym c.status.ensures ∙ zero))

pub returns-clause-starts : goal.returns-clause-starts
returns-clause-starts g c = λ zero.
    let done = done-of c.answer-ending.result (sym c.status.ensures ∙ zero) in
    request-starts (command_of (texts c.args.words.now)) (g.H.Shelf.holds c.args.shelf.now) (c.answer-ending.ensures.bytes done)

pub returns-clause-seconds : goal.returns-clause-seconds
returns-clause-seconds g c = λ zero.
    let done = done-of c.answer-ending.result (sym c.status.ensures ∙ zero) in
    request-seconds (command_of (texts c.args.words.now)) (g.H.Shelf.holds c.args.shelf.now) c.answer-ending.ensures.seed (c.answer-ending.ensures.bytes done)
