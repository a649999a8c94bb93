-- Each split deals one seat more.
use Rattle.std.proofs.Common.{rules}
use Rattle.turn_cell.specs.Seats.{cell_id, seat_view}
use Rattle.turn_cell.proofs.Ending.{dealt-none, dealt-more, dealt-two, dealt-free, dealt-all}
use Rattle.turn_cell.proofs.cell.TurnCell.deal.Goals as goal

pub loop-number-init : goal.loop-number-init
loop-number-init g c = (c.requires.own, search rules, search rules, λ base places is. dealt-none (cell_id c.args.self.now) base places c.args.passes (seat_view c.args.last) c.args.seats.items is c.requires.room.0)

pub split-requires-clause-free : goal.split-requires-clause-free
split-requires-clause-free g c =
    let first = c.requires.all in
    dealt-free (cell_id c.args.self.now) first.0 first.1 c.args.passes (seat_view c.loop-number.last) c.loop-number.seats.items (c.loop-number.invariant.3 first.0 first.1 first.2)

pub split-requires-clause-two : goal.split-requires-clause-two
split-requires-clause-two g c =
    let first = c.requires.all in
    dealt-two (cell_id c.args.self.now) first.0 first.1 c.args.passes (seat_view c.loop-number.last) c.loop-number.seats.items (c.loop-number.invariant.3 first.0 first.1 first.2) (search rules)

pub loop-number-preserved : goal.loop-number-preserved
loop-number-preserved g c =
    let i = c.loop-number.invariant in
    let s = c.split.ensures in (
      s.own.0,
      search rules,
      search rules,
      λ base places is. rw (c.push_reserved.ensures.items, s.kept) (dealt-more (cell_id c.args.self.now) base places c.args.passes (seat_view c.loop-number.last) c.loop-number.seats.items c.split.result (i.3 base places is) (search rules) s.own.1 s.given),
    )

pub returns-clause-opened : goal.returns-clause-opened
returns-clause-opened g c base places is =
    let i = c.loop-number.invariant in
    rw c.push_reserved-2.ensures.items (dealt-all (cell_id c.args.self.now) base places c.args.passes c.loop-number.last c.loop-number.seats.items (i.3 base places is) (search rules) i.0)
