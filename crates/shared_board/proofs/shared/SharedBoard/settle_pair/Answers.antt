-- A turn with the waiting before it. The seat's items tell where the slots are.
use Rattle.std.proofs.Common.{◌+◌, sym, ap, ◌∙◌, subst}
use Rattle.exchange_board.specs.Views.{words_of}
use Rattle.turn_cell.specs.AtomicSteps.{with_refused, after_return}
use Rattle.turn_cell.specs.Seats.{seat_view}
use Rattle.turn_cell.specs.Sums.{times}
use Rattle.shared_board.specs.Turns.{ReturnsPairAndTakes}
use Rattle.shared_board.specs.Shared.{as_returned}
use Rattle.shared_board.proofs.Words.{word-at}
use Rattle.shared_board.proofs.Stores.{SeatView}
use Rattle.shared_board.proofs.HandBacks.{item-word}
use Rattle.shared_board.proofs.shared.SharedBoard.settle_pair.Goals as goal

pub put_pair_back-back-requires-clause-low : goal.put_pair_back-back-requires-clause-low
put_pair_back-back-requires-clause-low g c =
    sym (word-at c.take_turn-board.result.places c.args.swept.slot)
    ∙ (item-word (words_of c.take_turn-board.result) (seat_view c.args.pass.now).out c.args.swept.slot c.args.swept.epoch c.take_turn-board.ensures.taken.work c.requires.work.0).1

pub put_pair_back-back-requires-clause-high : goal.put_pair_back-back-requires-clause-high
put_pair_back-back-requires-clause-high g c =
    sym (word-at c.take_turn-board.result.places (c.args.swept.slot + 1))
    ∙ (item-word (words_of c.take_turn-board.result) (seat_view c.args.pass.now).out (c.args.swept.slot + 1) c.args.swept.epoch c.take_turn-board.ensures.taken.work c.requires.work.1).1

pub put_pair_back-back-requires-clause-once : goal.put_pair_back-back-requires-clause-once
put_pair_back-back-requires-clause-once g c =
    let out = ap (λ (x : SeatView). x.out) c.take_turn-board.ensures.taken.view in
    (ap (times c.args.swept.slot) out ∙ c.requires.once.0, ap (times (c.args.swept.slot + 1)) out ∙ c.requires.once.1)

pub returns-clause-turned : goal.returns-clause-turned
returns-clause-turned g c =
    let v = with_refused (seat_view c.args.pass.now) (seat_view c.take_turn-board.new.pass).refused in
    let m = seat_view c.put_pair_back-back.new.pass in
    let taken = c.take_turn-board.ensures.taken in
    let turned : ReturnsPairAndTakes v (seat_view c.hand_out_pair.new.pass) c.args.swept.slot c.args.swept.epoch c.hand_out_pair.result = record {
      between = after_return m;
      returned = c.put_pair_back-back.ensures.returned v taken;
      taken = c.hand_out_pair.ensures.taken (as_returned v m) (c.put_pair_back-back.ensures.found v taken);
      found = c.hand_out_pair.ensures.found;
    } in
    subst (λ n. ReturnsPairAndTakes (with_refused (seat_view c.args.pass.now) n) (seat_view c.hand_out_pair.new.pass) c.args.swept.slot c.args.swept.epoch c.hand_out_pair.result)
    (sym (c.hand_out_pair.ensures.refused ∙ c.put_pair_back-back.ensures.refused)) turned
