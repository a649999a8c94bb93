-- One try. The seat's item tells where the slot is.
use Rattle.std.proofs.Common.{sym, ◌∙◌}
use Rattle.exchange_board.specs.Views.{words_of}
use Rattle.turn_cell.specs.Seats.{seat_view}
use Rattle.shared_board.proofs.Words.{word-at}
use Rattle.shared_board.proofs.HandBacks.{item-word, item-held}
use Rattle.shared_board.proofs.shared.SharedBoard.try_settle.Goals as goal

pub hand_back-requires-clause-out : goal.hand_back-requires-clause-out
hand_back-requires-clause-out c =
    sym (word-at c.in-Turn.board.places c.args.swept.slot)
    ∙ (item-word (words_of c.in-Turn.board) (seat_view c.args.pass.now).out c.args.swept.slot c.args.swept.epoch c.in-Turn.ensures.taken.work c.requires.work).1

pub hand_back-requires-clause-work : goal.hand_back-requires-clause-work
hand_back-requires-clause-work c =
    item-held (seat_view c.args.pass.now) (seat_view c.try_turn.new.pass) c.in-Turn.board c.args.swept.slot c.args.swept.epoch c.in-Turn.ensures.taken c.requires.work
