-- Four sites of each row: the second row's new words are none of the first's.
use Rattle.std.proofs.Common.{◌+◌, arith}
use Rattle.bit_totals.proofs.RowCounts.{row-more-le}
use Rattle.bit_totals.proofs.SweptPairs.{sweep-on, pair-one, both-counted}
use Rattle.bit_totals.proofs.counted_rows.sweep_four_of_both.Goals as goal

pub sweep_and_count_four-b-requires-clause-row : goal.sweep_and_count_four-b-requires-clause-row
sweep_and_count_four-b-requires-clause-row g c =
    sweep-on c.args.lent.now c.args.second.now c.args.own.now c.sweep_and_count_four-a.new.own c.requires.second c.sweep_and_count_four-a.ensures.swept.sized

pub add_last_carries-requires-clause-room : goal.add_last_carries-requires-clause-room
add_last_carries-requires-clause-room g c = λ b h.
    let lent = c.args.lent.now in
    let first = c.args.first.now in
    let second = c.args.second.now in
    let k = c.args.k in
    let own = c.sweep_and_count_four-b.new.own in
    let counted = both-counted lent first second c.requires.apart k b _ _ c.sweep_and_count_four-a.new.own own c.requires.within
    c.sweep_and_count_four-b.ensures.swept (c.sweep_and_count_four-a.ensures.counted b) (c.sweep_and_count_four-b.ensures.counted b) in
    omega (arith, c.requires.room b h, counted, c.add_counts-last.ensures.sum b, row-more-le own lent.around first b k 4, row-more-le own lent.around second b k 4)

pub returns-clause-swept : goal.returns-clause-swept
returns-clause-swept g c =
    pair-one c.args.lent.now c.args.first.now c.args.second.now c.requires.apart c.args.k (c.args.k + 4) c.args.own.now c.sweep_and_count_four-a.new.own c.sweep_and_count_four-b.new.own
    (omega arith) c.requires.within c.sweep_and_count_four-a.ensures.swept c.sweep_and_count_four-b.ensures.swept

pub returns-clause-counted : goal.returns-clause-counted
returns-clause-counted g c = λ b h.
    let counted = both-counted c.args.lent.now c.args.first.now c.args.second.now c.requires.apart c.args.k b _ _ c.sweep_and_count_four-a.new.own c.sweep_and_count_four-b.new.own c.requires.within
    c.sweep_and_count_four-b.ensures.swept (c.sweep_and_count_four-a.ensures.counted b) (c.sweep_and_count_four-b.ensures.counted b) in
    omega (arith, counted, c.add_counts-last.ensures.sum b, c.add_last_carries.ensures b h)
