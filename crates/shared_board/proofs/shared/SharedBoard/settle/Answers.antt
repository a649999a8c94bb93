-- A turn with the waiting before it. The seat's item tells where the slot is.
use Rattle.std.proofs.Common.{sym, ◌∙◌, subst}
use Rattle.exchange_board.specs.Views.{words_of}
use Rattle.turn_cell.specs.AtomicSteps.{with_refused}
use Rattle.turn_cell.specs.Seats.{seat_view}
use Rattle.shared_board.specs.Turns.{ReturnsSlot}
use Rattle.shared_board.proofs.Words.{word-at}
use Rattle.shared_board.proofs.HandBacks.{item-word, item-held}
use Rattle.shared_board.proofs.shared.SharedBoard.settle.Goals as goal

pub hand_back-requires-clause-out : goal.hand_back-requires-clause-out
hand_back-requires-clause-out g c =
    sym (word-at c.take_turn-board.result.places c.args.swept.slot)
    ∙ (item-word (words_of c.take_turn-board.result) (seat_view c.args.pass.now).out c.args.swept.slot c.args.swept.epoch c.take_turn-board.ensures.taken.work c.requires.work).1

pub hand_back-requires-clause-work : goal.hand_back-requires-clause-work
hand_back-requires-clause-work g c =
    item-held (with_refused (seat_view c.args.pass.now) (seat_view c.take_turn-board.new.pass).refused) (seat_view c.take_turn-board.new.pass) c.take_turn-board.result
    c.args.swept.slot c.args.swept.epoch c.take_turn-board.ensures.taken c.requires.work

pub returns-clause-returned : goal.returns-clause-returned
returns-clause-returned g c =
    subst (λ n. ReturnsSlot (with_refused (seat_view c.args.pass.now) n) (seat_view c.hand_back.new.pass) c.args.swept.slot c.args.swept.epoch c.hand_back.result) (sym c.hand_back.ensures.refused)
    (c.hand_back.ensures.returned (with_refused (seat_view c.args.pass.now) (seat_view c.take_turn-board.new.pass).refused) c.take_turn-board.ensures.taken)
