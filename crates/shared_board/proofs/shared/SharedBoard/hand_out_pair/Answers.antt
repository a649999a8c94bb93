-- The holder's hand-out of two partners is one turn.
use Rattle.std.proofs.Common.{◌≡◌, ℕ, ◌+◌, ◌*◌, List, ◌∷◌, set, Some, sym, ap, ◌∙◌, arith}
use Rattle.exchange_board.specs.Views.{BoardView, words_of}
use Rattle.turn_cell.specs.AtomicSteps.{after_return}
use Rattle.turn_cell.specs.Seats.{seat_view}
use Rattle.shared_board.specs.Shared.{knows}
use Rattle.shared_board.proofs.Stores.{SeatView}
use Rattle.shared_board.proofs.Words.{two-back}
use Rattle.shared_board.proofs.PairTurns.{TwoChanged, out-changed, first-out, second-out-lawful, second-out, pair-hands-out}
use Rattle.shared_board.proofs.shared.SharedBoard.hand_out_pair.Goals as goal
use Rattle.shared_board.proofs.shared.SharedBoard.hand_out_pair.Goals.{After-store, After-store-in-Pair}

-- the words that change
two : (c : After-store) → TwoChanged c.args.board c.next_pair.new.self c.in-Pair.pair.slot (4 * c.in-Pair.pair.epoch) (4 * c.in-Pair.pair.epoch + 1)
two c = out-changed c.args.board c.next_pair.new.self c.in-Pair.pair c.in-Pair.ensures.next

first : (c : After-store) → seat_view c.store.new.pass
    ≡ knows (seat_view c.args.pass.now) (set (words_of c.args.board) c.in-Pair.pair.slot (4 * c.in-Pair.pair.epoch + 1)) ((c.in-Pair.pair.slot, c.in-Pair.pair.epoch) ∷ (seat_view c.args.pass.now).out)
first c =
    first-out (seat_view c.args.pass.now) (seat_view c.store.new.pass) c.args.board c.next_pair.new.self c.in-Pair.pair.slot c.in-Pair.pair.epoch
    c.requires.holder.words (two c) (rw c.slot.ensures at c.store.ensures.stored)

second : (c : After-store-in-Pair) → seat_view c.store-in-Pair.new.pass
    ≡ knows (seat_view c.args.pass.now) (words_of c.next_pair.new.self) ((c.in-Pair.pair.slot + 1, c.in-Pair.pair.epoch) ∷ (c.in-Pair.pair.slot, c.in-Pair.pair.epoch) ∷ (seat_view c.args.pass.now).out)
second c =
    let at = (goal.at.After-store-in-Pair c).After-store in
    second-out (seat_view c.args.pass.now) (seat_view c.store.new.pass) (seat_view c.store-in-Pair.new.pass) c.args.board c.next_pair.new.self c.in-Pair.pair.slot c.in-Pair.pair.epoch
    (two at) (first at) (rw c.slot-in-Pair.ensures at c.store-in-Pair.ensures.stored)

pub store-requires-in-Pair-clause-held : goal.store-requires-in-Pair-clause-held
store-requires-in-Pair-clause-held c = ap (λ (x : SeatView). x.holding) (first (goal.at.store-requires-in-Pair-clause-held c).After-store) ∙ c.requires.holder.held

pub store-requires-in-Pair-clause-lawful : goal.store-requires-in-Pair-clause-lawful
store-requires-in-Pair-clause-lawful c =
    let at = (goal.at.store-requires-in-Pair-clause-lawful c).After-store in
    rw c.slot-in-Pair.ensures (second-out-lawful (seat_view c.args.pass.now) (seat_view c.store.new.pass) c.args.board c.next_pair.new.self c.in-Pair.pair.slot c.in-Pair.pair.epoch (two at) (first at))

pub give_back-requires-clause-held : goal.give_back-requires-clause-held
give_back-requires-clause-held c = ap (λ (x : SeatView). x.holding) (second (goal.at.give_back-requires-clause-held c).After-store-in-Pair) ∙ c.requires.holder.held

pub give_back-requires-clause-words : goal.give_back-requires-clause-words
give_back-requires-clause-words c = sym (ap (λ (x : SeatView). x.known) (second (goal.at.give_back-requires-clause-words c).After-store-in-Pair))

pub give_back-requires-clause-base : goal.give_back-requires-clause-base
give_back-requires-clause-base c =
    ap (λ (x : BoardView). Some x.origin) c.in-Pair.ensures.next.after
    ∙ (sym c.requires.holder.base ∙ sym (ap (λ (x : SeatView). x.base) (second (goal.at.give_back-requires-clause-base c).After-store-in-Pair)))

pub returns-in-Pair-clause-refused : goal.returns-in-Pair-clause-refused
returns-in-Pair-clause-refused c =
    ap (λ (x : SeatView). x.refused) (c.give_back.ensures.back ∙ ap after_return (second (goal.at.returns-in-Pair-clause-refused c).After-store-in-Pair))

pub returns-in-Pair-clause-taken : goal.returns-in-Pair-clause-taken
returns-in-Pair-clause-taken c v has =
    let seeing : SeatView → SeatView = λ x. record x { seen = v.seen } in
    pair-hands-out v (seeing (seat_view c.args.pass.now)) (seeing (seat_view c.store-in-Pair.new.pass)) (seat_view c.give_back.new.pass) c.args.board c.next_pair.new.self c.in-Pair.pair
    has c.next_pair.ensures.phased c.in-Pair.ensures.next (ap seeing (second (goal.at.returns-in-Pair-clause-taken c).After-store-in-Pair)) c.give_back.ensures.back

pub returns-in-Pair-clause-found : goal.returns-in-Pair-clause-found
returns-in-Pair-clause-found c =
    let at = goal.at.returns-in-Pair-clause-found c in
    let t = c.in-Pair.pair.slot in
    let e = c.in-Pair.pair.epoch in
    let changed = two at.After-store in
    let seen : (seat_view c.give_back.new.pass).seen ≡ set (set (words_of c.args.board) t (4 * e + 1)) (t + 1) (4 * e + 1) =
    ap (λ (x : SeatView). x.seen) c.give_back.ensures.back ∙ ap (λ (x : SeatView). x.known) (second at.After-store-in-Pair) ∙ changed.words in
    ap (λ (l : List ℕ). set (set l t (4 * e)) (t + 1) (4 * e)) seen
    ∙ two-back (words_of c.args.board) t (t + 1) (4 * e + 1) (4 * e) (4 * e) (λ z. omega arith) changed.low_before changed.high_before
    ∙ sym c.requires.holder.words

pub returns-in-Single-clause-taken : goal.returns-in-Single-clause-taken
returns-in-Single-clause-taken c v has =
    (c.end_hand_out.ensures.taken v c.args.board has c.next_pair.ensures.phased c.in-Single.ensures.next.0, c.end_hand_out.ensures.alone c.in-Single.ensures.next.1)
