-- The holder's hand-back is one turn.
use Rattle.std.proofs.Common.{arith, set, ◌+◌, ◌*◌, ◌≡◌, inl, inr, length, sym, ap, ◌∙◌, subst}
use Rattle.scalar_rule.specs.Epoch.{partner}
use Rattle.exchange_board.specs.Views.{words_of, ready_at, arrived_at}
use Rattle.exchange_board.specs.declared.arrival.Arrival.TheVariants as arrivals
use Rattle.turn_cell.specs.Sums.{without}
use Rattle.turn_cell.specs.Seats.{seat_view}
use Rattle.shared_board.specs.Shared.{knows}
use Rattle.shared_board.proofs.Stores.{SeatView, left}
use Rattle.shared_board.proofs.HandBacks.{Came, Told, told, alone-came, waiting-came, TwoCame, settled-came, one-ends, mate-is, mate-lawful, mate-stored, two-ends, alone-back, waiting-back, settled-back}
use Rattle.shared_board.proofs.shared.SharedBoard.hand_back.Goals as goal
use Rattle.shared_board.proofs.shared.SharedBoard.hand_back.Goals.{After-arrive, After-mate_of, After-store}

came : (c : After-arrive) → Came c.args.board c.arrive.new.self c.args.swept.slot c.args.swept.epoch
came c = record {
  moved = c.arrive.ensures.moved;
  known = c.requires.known;
  out = c.requires.out;
  small = c.arrive.ensures.phased;
  behind = c.arrive.ensures.behind;
}

-- what the answer tells
tells : (c : After-arrive) (a : arrivals.the_data) → c.arrive.result ≡ a → Told c.args.board.places c.args.swept.slot c.args.swept.epoch a
tells c a is = told c.args.board.places c.args.swept.slot c.args.swept.epoch a (sym is ∙ c.arrive.ensures.answer)

pub end_turn-requires-clause-ready : goal.end_turn-requires-clause-ready
end_turn-requires-clause-ready c =
    let arrived = (goal.at.end_turn-requires-clause-ready c).After-arrive in
    let m = came arrived in
    let w = tells arrived arrivals.Waiting c.in-Waiting.is in
    rw c.slot-slot.ensures (one-ends (seat_view c.args.pass.now) c.args.board c.arrive.new.self c.args.swept.slot c.args.swept.epoch (arrived_at c.args.swept.epoch)
    c.requires.holder m (waiting-came c.args.board c.arrive.new.self c.args.swept.slot c.args.swept.epoch m w.0 w.1) c.requires.work (inl (omega arith)))

pub returns-in-Waiting-clause-returned : goal.returns-in-Waiting-clause-returned
returns-in-Waiting-clause-returned c v has =
    let arrived = (goal.at.returns-in-Waiting-clause-returned c).After-arrive in
    let w = tells arrived arrivals.Waiting c.in-Waiting.is in
    waiting-back v (seat_view c.args.pass.now) (seat_view c.end_turn.new.pass) c.args.board c.arrive.new.self c.args.swept.slot c.args.swept.epoch
    has (came arrived) w.0 w.1 (rw c.slot-slot.ensures at c.end_turn.ensures.left)

pub end_turn-requires-in-Alone-clause-ready : goal.end_turn-requires-in-Alone-clause-ready
end_turn-requires-in-Alone-clause-ready c =
    let arrived = (goal.at.end_turn-requires-in-Alone-clause-ready c).After-arrive in
    let m = came arrived in
    let none = tells arrived arrivals.Alone c.in-Alone.is in
    rw c.slot-slot.ensures (one-ends (seat_view c.args.pass.now) c.args.board c.arrive.new.self c.args.swept.slot c.args.swept.epoch (ready_at (c.args.swept.epoch + 1))
    c.requires.holder m (alone-came c.args.board c.arrive.new.self c.args.swept.slot c.args.swept.epoch m none) c.requires.work (inr (omega arith)))

pub returns-in-Alone-clause-returned : goal.returns-in-Alone-clause-returned
returns-in-Alone-clause-returned c v has =
    let arrived = (goal.at.returns-in-Alone-clause-returned c).After-arrive in
    alone-back v (seat_view c.args.pass.now) (seat_view c.end_turn-in-Alone.new.pass) c.args.board c.arrive.new.self c.args.swept.slot c.args.swept.epoch
    has (came arrived) (tells arrived arrivals.Alone c.in-Alone.is) (rw c.slot-slot.ensures at c.end_turn-in-Alone.ensures.left)

-- the slot and its partner moved
two : (c : After-mate_of) → TwoCame c.args.board c.arrive.new.self c.args.swept.slot c.mate_of.result c.args.swept.epoch
two c =
    let arrived = (goal.at.After-mate_of c).After-arrive in
    let s = tells arrived (arrivals.Settled c.in-Settled.pair) c.in-Settled.is in
    let mate : c.mate_of.result ≡ partner c.args.swept.slot c.args.swept.epoch =
    (rw c.slot-slot.ensures at c.mate_of.ensures) ∙ mate-is (length c.args.board.places) c.args.swept.slot c.args.swept.epoch c.in-Settled.pair s.0 s.2 in
    subst (λ p. TwoCame c.args.board c.arrive.new.self c.args.swept.slot p c.args.swept.epoch) (sym mate)
    (settled-came c.args.board c.arrive.new.self c.args.swept.slot c.args.swept.epoch (came arrived) s.0 s.1)

pub store-requires-clause-known : goal.store-requires-clause-known
store-requires-clause-known c = (two (goal.at.store-requires-clause-known c).After-mate_of).mate_known

pub store-requires-clause-lawful : goal.store-requires-clause-lawful
store-requires-clause-lawful c =
    mate-lawful (seat_view c.args.pass.now) c.args.board c.arrive.new.self c.args.swept.slot c.mate_of.result c.args.swept.epoch
    c.requires.holder.words (two (goal.at.store-requires-clause-lawful c).After-mate_of)

stored : (c : After-store) → seat_view c.store.new.pass ≡ knows (seat_view c.args.pass.now) (set (words_of c.args.board) c.mate_of.result (4 * c.args.swept.epoch + 4)) (seat_view c.args.pass.now).out
stored c =
    mate-stored (seat_view c.args.pass.now) (seat_view c.store.new.pass) c.args.board c.arrive.new.self c.args.swept.slot c.mate_of.result c.args.swept.epoch
    c.requires.holder.words (two (goal.at.After-store c).After-mate_of) c.store.ensures.stored

pub end_turn-requires-in-Settled-clause-ready : goal.end_turn-requires-in-Settled-clause-ready
end_turn-requires-in-Settled-clause-ready c =
    let at = goal.at.end_turn-requires-in-Settled-clause-ready c in
    rw c.slot-slot.ensures (two-ends (seat_view c.args.pass.now) (seat_view c.store.new.pass) c.args.board c.arrive.new.self c.args.swept.slot c.mate_of.result c.args.swept.epoch
    c.requires.holder (came at.After-arrive) (two at.After-mate_of) c.requires.work (stored at.After-store))

pub returns-in-Settled-clause-refused : goal.returns-in-Settled-clause-refused
returns-in-Settled-clause-refused c =
    ap (λ (x : SeatView). x.refused) (c.end_turn-in-Settled.ensures.left
    ∙ ap (λ (x : SeatView). left x (words_of c.arrive.new.self) (without c.slot-slot.result x.out)) (stored (goal.at.returns-in-Settled-clause-refused c).After-store))

pub returns-in-Settled-clause-returned : goal.returns-in-Settled-clause-returned
returns-in-Settled-clause-returned c v has =
    let at = goal.at.returns-in-Settled-clause-returned c in
    let s = tells at.After-arrive (arrivals.Settled c.in-Settled.pair) c.in-Settled.is in
    settled-back v (seat_view c.args.pass.now) (seat_view c.end_turn-in-Settled.new.pass) c.args.board c.arrive.new.self c.args.swept.slot c.args.swept.epoch c.in-Settled.pair
    has (came at.After-arrive) s.0 s.1 s.2
    ((rw c.slot-slot.ensures at c.end_turn-in-Settled.ensures.left)
    ∙ ap (λ (x : SeatView). left x (words_of c.arrive.new.self) (without c.args.swept.slot x.out)) (stored at.After-store))
