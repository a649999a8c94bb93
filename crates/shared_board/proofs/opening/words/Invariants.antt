-- The words of the slots so far.
use Rattle.std.proofs.Common.{◌≡◌, ℕ, ◌<◌, List, take}
use Rattle.exchange_board.specs.Machine.{phases}
use Rattle.exchange_board.specs.Views.{BoardView, words_of}
use Rattle.shared_board.proofs.opening.words.Given as goal

pub record AreSoFar (b : BoardView) (t : ℕ) (found : List ℕ) : Type 0 where
  pub words : found ≡ take t (words_of b)
  pub phased : (u : ℕ) → u < t → phases b.places u < 3

abbrev pub invariant-words : goal.invariant-words
invariant-words l = AreSoFar l.board l.slot l.words.items
