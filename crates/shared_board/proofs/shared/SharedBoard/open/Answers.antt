-- A board with no slot in work has words of phase 0 or 2.
use Rattle.std.proofs.Common.{◌∙◌, sym, subst}
use Rattle.turn_cell.specs.Progress.{AreAtHome}
use Rattle.shared_board.proofs.Words.{at_home-words}
use Rattle.shared_board.proofs.shared.SharedBoard.open.Goals as goal

pub open-requires-clause-at_home : goal.open-requires-clause-at_home
open-requires-clause-at_home c =
    subst AreAtHome (sym (c.as_slice.ensures.value ∙ c.in_ok-words.ensures.words))
    (at_home-words c.args.board.places c.in_ok-words.ensures.phased c.requires.home)
