-- Four sites by four: what is swept later changes none of the words that are counted before.
use Rattle.std.proofs.Common.{◌≡◌, ◌+◌, ◌∙◌, arith}
use Rattle.plane_sweep.proofs.RowSweeps.{row-joined}
use Rattle.bit_totals.proofs.RowCounts.{row-more-le}
use Rattle.bit_totals.proofs.SweptPairs.{sweep-on, pair-one, eight-counted}
use Rattle.bit_totals.proofs.counted_rows.sweep_eight.Goals as goal

pub sweep_and_count_four-b-requires-clause-row : goal.sweep_and_count_four-b-requires-clause-row
sweep_and_count_four-b-requires-clause-row g c =
    sweep-on c.args.lent.now c.args.first.now c.args.own.now c.sweep_and_count_four-a.new.own c.requires.first c.sweep_and_count_four-a.ensures.swept.sized

pub sweep_and_count_four-c-requires-clause-row : goal.sweep_and_count_four-c-requires-clause-row
sweep_and_count_four-c-requires-clause-row g c =
    sweep-on c.args.lent.now c.args.second.now c.args.own.now c.sweep_and_count_four-b.new.own c.requires.second
    (c.sweep_and_count_four-b.ensures.swept.sized ∙ c.sweep_and_count_four-a.ensures.swept.sized)

pub sweep_and_count_four-d-requires-clause-row : goal.sweep_and_count_four-d-requires-clause-row
sweep_and_count_four-d-requires-clause-row g c =
    sweep-on c.args.lent.now c.args.second.now c.args.own.now c.sweep_and_count_four-c.new.own c.requires.second
    (c.sweep_and_count_four-c.ensures.swept.sized ∙ c.sweep_and_count_four-b.ensures.swept.sized ∙ c.sweep_and_count_four-a.ensures.swept.sized)

pub add_carries-requires-clause-room : goal.add_carries-requires-clause-room
add_carries-requires-clause-room g c = λ b h.
    let lent = c.args.lent.now in
    let first = c.args.first.now in
    let second = c.args.second.now in
    let k = c.args.k in
    let own = c.sweep_and_count_four-d.new.own in
    let counted = eight-counted lent first second c.requires.apart k b _ _ _ _ c.sweep_and_count_four-a.new.own c.sweep_and_count_four-b.new.own c.sweep_and_count_four-c.new.own own c.requires.within
    c.sweep_and_count_four-b.ensures.swept c.sweep_and_count_four-c.ensures.swept c.sweep_and_count_four-d.ensures.swept
    (c.sweep_and_count_four-a.ensures.counted b) (c.sweep_and_count_four-b.ensures.counted b) (c.sweep_and_count_four-c.ensures.counted b) (c.sweep_and_count_four-d.ensures.counted b) in
    omega (
      arith,
      c.requires.room b h,
      counted,
      c.add_counts-front.ensures.sum b,
      c.add_counts-back.ensures.sum b,
      row-more-le own lent.around first b k 8,
      row-more-le own lent.around second b k 8,
    )

pub returns-clause-swept : goal.returns-clause-swept
returns-clause-swept g c =
    let lent = c.args.lent.now in
    let first = c.args.first.now in
    let second = c.args.second.now in
    let k = c.args.k in
    let eight : k + 4 + 4 ≡ k + 8 = omega arith in
    let o₀ = c.args.own.now in
    let o₁ = c.sweep_and_count_four-a.new.own in
    let o₂ = c.sweep_and_count_four-b.new.own in
    let o₃ = c.sweep_and_count_four-c.new.own in
    let o₄ = c.sweep_and_count_four-d.new.own in
    let one = row-joined lent.around lent.rule lent.draws.now first k (k + 4) (k + 4 + 4) o₀ o₁ o₂ (omega arith) (omega arith)
    c.sweep_and_count_four-a.ensures.swept c.sweep_and_count_four-b.ensures.swept in
    let two = row-joined lent.around lent.rule lent.draws.now second k (k + 4) (k + 4 + 4) o₂ o₃ o₄ (omega arith) (omega arith)
    c.sweep_and_count_four-c.ensures.swept c.sweep_and_count_four-d.ensures.swept in
    rw (← eight) (pair-one lent first second c.requires.apart k (k + 4 + 4) o₀ o₂ o₄ (omega arith) (omega arith) one two)

pub returns-clause-counted : goal.returns-clause-counted
returns-clause-counted g c = λ b h.
    let counted = eight-counted c.args.lent.now c.args.first.now c.args.second.now c.requires.apart c.args.k b _ _ _ _ c.sweep_and_count_four-a.new.own c.sweep_and_count_four-b.new.own c.sweep_and_count_four-c.new.own c.sweep_and_count_four-d.new.own c.requires.within
    c.sweep_and_count_four-b.ensures.swept c.sweep_and_count_four-c.ensures.swept c.sweep_and_count_four-d.ensures.swept
    (c.sweep_and_count_four-a.ensures.counted b) (c.sweep_and_count_four-b.ensures.counted b) (c.sweep_and_count_four-c.ensures.counted b) (c.sweep_and_count_four-d.ensures.counted b) in
    omega (arith, counted, c.add_counts-front.ensures.sum b, c.add_counts-back.ensures.sum b, c.add_carries.ensures b h)
