-- The words in front are those from the step on, and those at the back are the first ones.
use Rattle.std.proofs.Common.{◌≡◌, ◌-◌, length, take, drop, arith}
use Rattle.std.proofs.lemmas.List.{length-drop, take_all}
use Rattle.overlap_lines.proofs.TurnedWords.{turned-at}
use Rattle.overlap_lines.proofs.turning.turn.Goals as goal

pub returns : goal.returns
returns c = λ k h.
    let words = c.args.words.now in
    let step = c.args.step in
    let all : take (length words - step) (drop step words) ≡ drop step words = take_all (length words - step) (drop step words) (omega (arith, length-drop step words)) in
    rw (c.copy_from_slice.ensures.after, c.copy_from_slice-2.ensures.after, all) (turned-at words step k c.requires.step h)
