-- The holder's hand-back of two partners, which ends a turn or goes on with it.
use Rattle.std.proofs.Common.{◌≡◌, ◌+◌, ◌*◌, arith, set, Some, refl, sym, ap, ◌∙◌}
use Rattle.exchange_board.specs.Views.{BoardView, words_of}
use Rattle.turn_cell.specs.AtomicSteps.{after_return}
use Rattle.turn_cell.specs.Seats.{seat_view}
use Rattle.turn_cell.specs.Sums.{without}
use Rattle.shared_board.specs.Shared.{knows}
use Rattle.shared_board.proofs.Stores.{SeatView}
use Rattle.shared_board.proofs.PairTurns.{TwoChanged, back-changed, first-back, second-back-lawful, second-back, pair-hands-back, pair-in-hand}
use Rattle.shared_board.proofs.shared.SharedBoard.put_pair_back.Goals as goal
use Rattle.shared_board.proofs.shared.SharedBoard.put_pair_back.Goals.{After-store, After-store-2}

-- the words that change
two : (c : After-store) → TwoChanged c.args.board c.arrive_pair.new.self c.args.swept.slot (4 * c.args.swept.epoch + 1) (4 * c.args.swept.epoch + 4)
two c = back-changed c.args.board c.arrive_pair.new.self c.args.swept.slot c.args.swept.epoch c.requires.known c.requires.low c.requires.high c.arrive_pair.ensures.moved

first : (c : After-store) → seat_view c.store.new.pass
    ≡ knows (seat_view c.args.pass.now) (set (words_of c.args.board) c.args.swept.slot (4 * c.args.swept.epoch + 4)) (without c.args.swept.slot (seat_view c.args.pass.now).out)
first c =
    first-back (seat_view c.args.pass.now) (seat_view c.store.new.pass) c.args.board c.arrive_pair.new.self c.args.swept.slot c.args.swept.epoch
    c.requires.holder.words (two c) (rw c.slot-slot.ensures at c.store.ensures.stored)

second : (c : After-store-2) → seat_view c.store-2.new.pass
    ≡ knows (seat_view c.args.pass.now) (words_of c.arrive_pair.new.self) (without (c.args.swept.slot + 1) (without c.args.swept.slot (seat_view c.args.pass.now).out))
second c =
    let at = (goal.at.After-store-2 c).After-store in
    second-back (seat_view c.args.pass.now) (seat_view c.store.new.pass) (seat_view c.store-2.new.pass) c.args.board c.arrive_pair.new.self c.args.swept.slot c.args.swept.epoch
    (two at) (first at) (rw c.slot-slot.ensures at c.store-2.ensures.stored)

pub store-requires-2-clause-held : goal.store-requires-2-clause-held
store-requires-2-clause-held c = ap (λ (x : SeatView). x.holding) (first (goal.at.store-requires-2-clause-held c).After-store) ∙ c.requires.holder.held

pub store-requires-2-clause-lawful : goal.store-requires-2-clause-lawful
store-requires-2-clause-lawful c =
    let at = (goal.at.store-requires-2-clause-lawful c).After-store in
    rw c.slot-slot.ensures (second-back-lawful (seat_view c.args.pass.now) (seat_view c.store.new.pass) c.args.board c.arrive_pair.new.self c.args.swept.slot c.args.swept.epoch (two at) (first at) (omega (arith, c.requires.once.1)))

pub returns-clause-holder : goal.returns-clause-holder
returns-clause-holder c =
    let now = second (goal.at.returns-clause-holder c).After-store-2 in
    record {
      held = ap (λ (x : SeatView). x.holding) now ∙ c.requires.holder.held;
      words = ap (λ (x : SeatView). x.known) now;
      base = ap (λ (x : SeatView). x.base) now ∙ (c.requires.holder.base ∙ sym (ap (λ (x : BoardView). Some x.origin) c.arrive_pair.ensures.moved));
    }

pub returns-clause-refused : goal.returns-clause-refused
returns-clause-refused c = ap (λ (x : SeatView). x.refused) (second (goal.at.returns-clause-refused c).After-store-2)

pub returns-clause-returned : goal.returns-clause-returned
returns-clause-returned c v has =
    let at = goal.at.returns-clause-returned c in
    pair-hands-back v (seat_view c.args.pass.now) (seat_view c.store-2.new.pass) (after_return (seat_view c.store-2.new.pass)) c.args.board c.arrive_pair.new.self c.args.swept.slot c.args.swept.epoch
    has c.arrive_pair.ensures.phased (two at.After-store) (second at.After-store-2) refl

pub returns-clause-found : goal.returns-clause-found
returns-clause-found c v has =
    let at = goal.at.returns-clause-found c in
    let h = seat_view c.args.pass.now in
    let m = seat_view c.store-2.new.pass in
    let back = pair-hands-back v h m (after_return m) c.args.board c.arrive_pair.new.self c.args.swept.slot c.args.swept.epoch
    has c.arrive_pair.ensures.phased (two at.After-store) (second at.After-store-2) refl in
    pair-in-hand v h m c.args.board c.arrive_pair.new.self c.args.swept.slot c.args.swept.epoch
    has (two at.After-store) (second at.After-store-2) c.requires.once.0 c.requires.once.1 back
