-- The holder's hand-out is one turn.
use Rattle.std.proofs.Common.{◌≡◌, ◌∷◌, Some, sym, ap, ◌∙◌, subst}
use Rattle.exchange_board.specs.Views.{BoardView, words_of}
use Rattle.exchange_board.specs.Answers.{Nexts, Takes, GoesNextAlone}
use Rattle.turn_cell.specs.AtomicSteps.{after_return}
use Rattle.turn_cell.specs.Seats.{seat_view}
use Rattle.shared_board.specs.Shared.{knows}
use Rattle.shared_board.proofs.Stores.{SeatView}
use Rattle.shared_board.proofs.HandOuts.{out-stored, hands-out, quiet-answers, slot-found, goes-alone, quiet-alone, quiet-found}
use Rattle.shared_board.proofs.shared.SharedBoard.end_hand_out.Goals as goal
use Rattle.shared_board.proofs.shared.SharedBoard.end_hand_out.Goals.{After-store}

-- what the board gave
gave : (c : After-store) → Takes c.requires.asked.before c.args.board c.in-Job.job
gave c = subst (Nexts c.requires.asked.before c.args.board) c.in-Job.is c.requires.asked.answer

stored : (c : After-store) → seat_view c.store.new.pass ≡ knows (seat_view c.args.pass.now) (words_of c.args.board) ((c.in-Job.job.slot, c.in-Job.job.epoch) ∷ (seat_view c.args.pass.now).out)
stored c =
    out-stored (seat_view c.args.pass.now) (seat_view c.store.new.pass) c.requires.asked.before c.args.board c.in-Job.job
    c.requires.asked.holder.words (gave c) (rw c.slot.ensures at c.store.ensures.stored)

pub give_back-requires-clause-words : goal.give_back-requires-clause-words
give_back-requires-clause-words c = sym (ap (λ (x : SeatView). x.known) (stored (goal.at.give_back-requires-clause-words c).After-store))

pub give_back-requires-clause-base : goal.give_back-requires-clause-base
give_back-requires-clause-base c =
    let at = (goal.at.give_back-requires-clause-base c).After-store in
    ap (λ (x : BoardView). Some x.origin) (gave at).after
    ∙ (sym c.requires.asked.holder.base ∙ sym (ap (λ (x : SeatView). x.base) (stored at)))

pub returns-in-Job-clause-refused : goal.returns-in-Job-clause-refused
returns-in-Job-clause-refused c =
    ap (λ (x : SeatView). x.refused) (c.give_back.ensures.back ∙ ap after_return (stored (goal.at.returns-in-Job-clause-refused c).After-store))

pub returns-in-Job-clause-taken : goal.returns-in-Job-clause-taken
returns-in-Job-clause-taken c v b has small answer =
    let seeing : SeatView → SeatView = λ x. record x { seen = v.seen } in
    hands-out v (seeing (seat_view c.args.pass.now)) (seeing (seat_view c.store.new.pass)) (seat_view c.give_back.new.pass) b c.args.board c.in-Job.job
    has small (subst (Nexts b c.args.board) c.in-Job.is answer) (ap seeing (stored (goal.at.returns-in-Job-clause-taken c).After-store)) c.give_back.ensures.back

-- what the seat has seen once the lock is given back
seen : (c : After-store) → (after_return (seat_view c.store.new.pass)).seen ≡ words_of c.args.board
seen c = ap (λ (x : SeatView). x.known) (stored c)

pub returns-in-Job-clause-alone : goal.returns-in-Job-clause-alone
returns-in-Job-clause-alone c lone =
    let at = (goal.at.returns-in-Job-clause-alone c).After-store in
    goes-alone (seat_view c.give_back.new.pass) c.requires.asked.before c.args.board c.in-Job.job c.requires.asked.phased (gave at)
    (ap (λ (x : SeatView). x.seen) c.give_back.ensures.back ∙ seen at) (subst (GoesNextAlone c.args.board) c.in-Job.is lone)

pub returns-in-Job-clause-found : goal.returns-in-Job-clause-found
returns-in-Job-clause-found c =
    let at = (goal.at.returns-in-Job-clause-found c).After-store in
    slot-found (seat_view c.args.pass.now) (seat_view c.give_back.new.pass) c.requires.asked.before c.args.board c.in-Job.job
    c.requires.asked.holder.words (gave at) (ap (λ (x : SeatView). x.seen) c.give_back.ensures.back ∙ seen at)

pub returns-in_default : goal.returns-in_default
returns-in_default c = record {
  own = c.give_back-in_default.ensures.own;
  refused = ap (λ (x : SeatView). x.refused) c.give_back-in_default.ensures.back;
  taken = λ v b has small answer. quiet-answers v (record (seat_view c.args.pass.now) { seen = v.seen }) (seat_view c.give_back-in_default.new.pass) b c.args.board c.args.next
      c.in_default.not-Job has small c.give_back-in_default.ensures.back answer;
  alone = λ lone. quiet-alone (seat_view c.give_back-in_default.new.pass) c.args.next c.in_default.not-Job;
  found = quiet-found (seat_view c.give_back-in_default.new.pass) c.args.next (seat_view c.args.pass.now).known c.in_default.not-Job
      (ap (λ (x : SeatView). x.seen) c.give_back-in_default.ensures.back);
}
