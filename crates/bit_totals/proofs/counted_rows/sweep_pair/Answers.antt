-- The columns are swept and counted by eight, then by four.
use Rattle.std.proofs.Common.{◌≡◌, ℕ, zero, ◌+◌, subst, arith}
use Rattle.bit_totals.specs.CountedRows.{SweepsPair}
use Rattle.bit_totals.proofs.RowCounts.{row-none, row-le}
use Rattle.bit_totals.proofs.SweptPairs.{sweep-on, pair-none, pair-joined, pair-kept}
use Rattle.bit_totals.proofs.counted_rows.sweep_pair.Goals as goal

pub eights-init : goal.eights-init
eights-init g c = record {
  within = omega arith;
  fours = omega arith;
  swept = pair-none c.args.lent.now c.args.first.now c.args.second.now c.requires.apart zero c.args.own.now;
  counted = λ b h. omega (arith, row-none c.args.own.now c.args.lent.now.around c.args.first.now b, row-none c.args.own.now c.args.lent.now.around c.args.second.now b);
}

pub sweep_eight-requires-clause-first : goal.sweep_eight-requires-clause-first
sweep_eight-requires-clause-first g c = sweep-on c.args.lent.now c.args.first.now c.args.own.now c.eights.own c.requires.first c.eights.invariant.swept.sized

pub sweep_eight-requires-clause-second : goal.sweep_eight-requires-clause-second
sweep_eight-requires-clause-second g c = sweep-on c.args.lent.now c.args.second.now c.args.own.now c.eights.own c.requires.second c.eights.invariant.swept.sized

pub sweep_eight-requires-clause-room : goal.sweep_eight-requires-clause-room
sweep_eight-requires-clause-room g c = λ b h.
    let first = row-le c.eights.own c.args.lent.now.around c.args.first.now b c.eights.k in
    let second = row-le c.eights.own c.args.lent.now.around c.args.second.now b c.eights.k in
    omega (arith, c.requires.room b h, c.eights.invariant.counted b h, first, second)

pub eights-preserved : goal.eights-preserved
eights-preserved g c =
    let lent = c.args.lent.now in
    let first = c.args.first.now in
    let second = c.args.second.now in
    let k = c.eights.k in
    record {
      within = omega arith;
      fours = omega (arith, c.eights.invariant.fours);
      swept = pair-joined lent first second c.requires.apart zero k (k + 8) c.args.own.now c.eights.own c.sweep_eight.new.own (omega arith) (omega arith) (omega arith) c.eights.invariant.swept c.sweep_eight.ensures.swept;
      counted = λ b h.
          let kept = pair-kept lent first second c.requires.apart b k (k + 8) c.eights.own c.sweep_eight.new.own (omega arith) (omega arith) c.sweep_eight.ensures.swept in
          omega (arith, c.sweep_eight.ensures.counted b h, c.eights.invariant.counted b h, kept);
    }

pub sweep_four_of_both-requires-clause-first : goal.sweep_four_of_both-requires-clause-first
sweep_four_of_both-requires-clause-first g c = sweep-on c.args.lent.now c.args.first.now c.args.own.now c.fours.own c.requires.first c.fours.invariant.swept.sized

pub sweep_four_of_both-requires-clause-second : goal.sweep_four_of_both-requires-clause-second
sweep_four_of_both-requires-clause-second g c = sweep-on c.args.lent.now c.args.second.now c.args.own.now c.fours.own c.requires.second c.fours.invariant.swept.sized

pub sweep_four_of_both-requires-clause-room : goal.sweep_four_of_both-requires-clause-room
sweep_four_of_both-requires-clause-room g c = λ b h.
    let first = row-le c.fours.own c.args.lent.now.around c.args.first.now b c.fours.k in
    let second = row-le c.fours.own c.args.lent.now.around c.args.second.now b c.fours.k in
    omega (arith, c.requires.room b h, c.fours.invariant.counted b h, first, second)

pub fours-preserved : goal.fours-preserved
fours-preserved g c =
    let lent = c.args.lent.now in
    let first = c.args.first.now in
    let second = c.args.second.now in
    let k = c.fours.k in
    record {
      within = omega arith;
      fours = omega (arith, c.fours.invariant.fours);
      swept = pair-joined lent first second c.requires.apart zero k (k + 4) c.args.own.now c.fours.own c.sweep_four_of_both.new.own (omega arith) (omega arith) (omega arith) c.fours.invariant.swept c.sweep_four_of_both.ensures.swept;
      counted = λ b h.
          let kept = pair-kept lent first second c.requires.apart b k (k + 4) c.fours.own c.sweep_four_of_both.new.own (omega arith) (omega arith) c.sweep_four_of_both.ensures.swept in
          omega (arith, c.sweep_four_of_both.ensures.counted b h, c.fours.invariant.counted b h, kept);
    }

pub returns-clause-swept : goal.returns-clause-swept
returns-clause-swept g c =
    let end : c.fours.k ≡ c.args.first.now.half = omega (arith, c.fours.invariant.fours, c.requires.fours) in
    let P : ℕ → Type 0 = λ n. SweepsPair c.args.lent.now c.args.first.now c.args.second.now zero n c.args.own.now c.fours.own in
    subst P end c.fours.invariant.swept

pub returns-clause-counted : goal.returns-clause-counted
returns-clause-counted g c = λ b h.
    let end : c.fours.k ≡ c.args.first.now.half = omega (arith, c.fours.invariant.fours, c.requires.fours) in
    rw end at (c.fours.invariant.counted b h)
