-- Two rows more at a time: they get their new spins, which leaves those of the rows before, and their bonds are counted.
use Rattle.std.proofs.Common.{◌≡◌, ℕ, ◌+◌, ◌*◌, ◌/◌, ◌≤◌, length, sym, ap, ◌∙◌, subst, arith}
use Rattle.std.proofs.Math.Nat.{add-mul}
use Rattle.spin_model.specs.Lattice.{half_plane}
use Rattle.threshold_table.specs.declared.rule_table.SlotRule.{SlotRule}
use Rattle.plane_sweep.specs.PlaneSweep.{SweepsRow, SweepsWords, IsRow}
use Rattle.plane_sweep.proofs.RowSteps.{here-within, up-within}
use Rattle.plane_sweep.proofs.RowSweeps.{rows-none, row-swept}
use Rattle.plane_sweep.proofs.SixWords.{rows-lent, row-whole}
use Rattle.bit_totals.specs.RowBonds.{plane_count, row_count}
use Rattle.bit_totals.specs.Tallies.{tallied}
use Rattle.bit_totals.specs.declared.counted_rows.Lent.{Lent}
use Rattle.bit_totals.proofs.PlaceCounts.{plane-room}
use Rattle.bit_totals.proofs.PlaneBonds.{plane-le, plane-none, row-counted}
use Rattle.bit_totals.proofs.SweptPairs.{halfway, pair-first, pair-second, plane-alike}
use Rattle.bit_totals.proofs.counted_rows.sweep_rows.Goals as goal

pub row_behind-behind-requires-clause-few : goal.row_behind-behind-requires-clause-few
row_behind-behind-requires-clause-few g c =
    let same = sym c.requires.size in
    rw same (plane-room c.args.sites.now.couplings.now.size c.requires.lawful)

pub row_behind-behind-requires-clause-here : goal.row_behind-behind-requires-clause-here
row_behind-behind-requires-clause-here g c =
    let same = sym c.requires.size in
    rw same (here-within c.args.sites.now.couplings.now.size c.args.sites.now.colour c.args.sites.now.z (2 * c.pairs.i) c.pairs.row (omega arith) c.pairs.invariant.row)

pub row_behind-behind-requires-clause-up : goal.row_behind-behind-requires-clause-up
row_behind-behind-requires-clause-up g c =
    let same = sym c.requires.size in
    rw same (up-within c.args.sites.now.couplings.now.size c.args.sites.now.colour c.args.sites.now.z (2 * c.pairs.i) c.pairs.row c.requires.lawful c.pairs.invariant.row)

pub sweep_pair-requires-clause-first : goal.sweep_pair-requires-clause-first
sweep_pair-requires-clause-first g c =
    let sites = c.args.sites.now in
    let sized = sym c.lend-around.ensures.here_sized in
    record {
      rows = rows-lent sites.couplings.now c.args.other.now sites.colour sites.z (2 * c.pairs.i) c.lend-around.result c.pairs.row c.requires.lawful (omega arith) c.lend-around.ensures c.pairs.invariant.row;
      own = c.pairs.invariant.words.sized ∙ c.requires.own ∙ sized;
      draws = c.requires.draws ∙ sized;
    }

pub sweep_pair-requires-clause-second : goal.sweep_pair-requires-clause-second
sweep_pair-requires-clause-second g c =
    let sites = c.args.sites.now in
    let l = sites.couplings.now.size in
    let whole = ap (λ n. n * (n / 2)) (sym c.requires.size) in
    let second = c.row_behind-behind.ensures l sites.colour sites.z (2 * c.pairs.i) c.requires.lawful (omega arith) whole c.pairs.invariant.row in
    let sized = sym c.lend-around.ensures.here_sized in
    record {
      rows = rows-lent sites.couplings.now c.args.other.now sites.colour sites.z (2 * c.pairs.i + 1) c.lend-around.result c.row_behind-behind.result c.requires.lawful (omega arith) c.lend-around.ensures second;
      own = c.pairs.invariant.words.sized ∙ c.requires.own ∙ sized;
      draws = c.requires.draws ∙ sized;
    }

pub sweep_pair-requires-clause-half : goal.sweep_pair-requires-clause-half
sweep_pair-requires-clause-half g c =
    let sites = c.args.sites.now in
    let whole = ap (λ n. n * (n / 2)) (sym c.requires.size) in
    let second = c.row_behind-behind.ensures sites.couplings.now.size sites.colour sites.z (2 * c.pairs.i) c.requires.lawful (omega arith) whole c.pairs.invariant.row in
    second.half ∙ sym c.pairs.invariant.row.half

pub sweep_pair-requires-clause-apart : goal.sweep_pair-requires-clause-apart
sweep_pair-requires-clause-apart g c =
    let sites = c.args.sites.now in
    let l = sites.couplings.now.size in
    let whole = ap (λ n. n * (n / 2)) (sym c.requires.size) in
    let second = c.row_behind-behind.ensures l sites.colour sites.z (2 * c.pairs.i) c.requires.lawful (omega arith) whole c.pairs.invariant.row in
    omega (arith, add-mul (2 * c.pairs.i) 1 (l / 2), c.pairs.invariant.row.half, c.pairs.invariant.row.here, second.here)

pub sweep_pair-requires-clause-fours : goal.sweep_pair-requires-clause-fours
sweep_pair-requires-clause-fours g c = omega (arith, c.requires.eights, c.requires.size, c.pairs.invariant.row.half)

pub sweep_pair-requires-clause-room : goal.sweep_pair-requires-clause-room
sweep_pair-requires-clause-room g c = λ b h.
    let sites = c.args.sites.now in
    let couplings = sites.couplings.now in
    let l = couplings.size in
    let i = c.pairs.i in
    let counted = plane-le couplings c.args.other.now sites.colour sites.z b c.pairs.own (2 * i * (l / 2)) in
    let last = row-whole l (2 * i + 1) (omega arith) in
    let more = add-mul (2 * i) 1 (l / 2) in
    omega (arith, c.requires.room b h, c.pairs.invariant.counted b h, counted, last, more, c.pairs.invariant.row.half)

pub row_behind-row-requires-clause-few : goal.row_behind-row-requires-clause-few
row_behind-row-requires-clause-few g c =
    let same = sym c.requires.size in
    rw same (plane-room c.args.sites.now.couplings.now.size c.requires.lawful)

pub row_behind-row-requires-clause-here : goal.row_behind-row-requires-clause-here
row_behind-row-requires-clause-here g c =
    let sites = c.args.sites.now in
    let l = sites.couplings.now.size in
    let same = sym c.requires.size in
    let whole = ap (λ n. n * (n / 2)) same in
    let second = c.row_behind-behind.ensures l sites.colour sites.z (2 * c.pairs.i) c.requires.lawful (omega arith) whole c.pairs.invariant.row in
    rw same (here-within l sites.colour sites.z (2 * c.pairs.i + 1) c.row_behind-behind.result (omega arith) second)

pub row_behind-row-requires-clause-up : goal.row_behind-row-requires-clause-up
row_behind-row-requires-clause-up g c =
    let sites = c.args.sites.now in
    let l = sites.couplings.now.size in
    let same = sym c.requires.size in
    let whole = ap (λ n. n * (n / 2)) same in
    let second = c.row_behind-behind.ensures l sites.colour sites.z (2 * c.pairs.i) c.requires.lawful (omega arith) whole c.pairs.invariant.row in
    rw same (up-within l sites.colour sites.z (2 * c.pairs.i + 1) c.row_behind-behind.result c.requires.lawful second)

pub pairs-init : goal.pairs-init
pairs-init g c =
    let sites = c.args.sites.now in
    let R : ℕ → Type 0 = λ n. IsRow n sites.colour sites.z 0 c.first_row-row.result in
    record {
      words = rows-none sites.couplings.now c.args.other.now c.copy_in_order-rule.result c.args.draws.now sites.colour sites.z c.args.own.now;
      row = subst R (sym c.requires.size) (c.first_row-row.ensures sites.colour sites.z c.requires.even);
      counted = λ b h. omega (arith, plane-none sites.couplings.now c.args.other.now sites.colour sites.z b c.args.own.now);
    }

pub pairs-preserved : goal.pairs-preserved
pairs-preserved g c =
    let lawful = c.requires.lawful in
    let sites = c.args.sites.now in
    let couplings = sites.couplings.now in
    let other = c.args.other.now in
    let colour = sites.colour in
    let z = sites.z in
    let l = couplings.size in
    let y = 2 * c.pairs.i in
    let around = c.lend-around.result in
    let rule : SlotRule = c.copy_in_order-rule.result in
    let lent : Lent = record { around = around; rule = rule; draws = c.args.draws } in
    let row = c.pairs.row in
    let behind = c.row_behind-behind.result in
    let old = c.pairs.own in
    let new = c.sweep_pair.new.own in
    let at = c.pairs.invariant.row in
    let whole = ap (λ n. n * (n / 2)) (sym c.requires.size) in
    let second = c.row_behind-behind.ensures l colour z y lawful (omega arith) whole at in
    let third = c.row_behind-row.ensures l colour z (y + 1) lawful (omega arith) whole second in
    let place : y + 1 + 1 ≡ 2 * (c.pairs.i + 1) = omega arith in
    let apart : row.here + row.half ≤ behind.here = omega (arith, add-mul y 1 (l / 2), at.half, at.here, second.here) in
    let pair = c.sweep_pair.ensures.swept in
    let long = c.pairs.invariant.words.sized ∙ c.requires.own in
    let room : behind.here ≤ length old = omega (arith, long, here-within l colour z (y + 1) behind (omega arith) second) in
    let mid = halfway lent row behind apart old new in
    let H : ℕ → Type 0 = λ n. SweepsRow around rule c.args.draws.now behind 0 n mid new in
    let one =
    row-swept couplings other rule c.args.draws.now colour z y around row c.args.own.now old mid
    lawful (omega arith) c.requires.own c.lend-around.ensures at c.pairs.invariant.words (pair-first lent row behind apart old new room pair.sized row.half (omega arith) pair)
    in
    let both =
    row-swept couplings other rule c.args.draws.now colour z (y + 1) around behind c.args.own.now mid new
    lawful (omega arith) c.requires.own c.lend-around.ensures second one
    (subst H (at.half ∙ sym second.half) (pair-second lent row behind apart old new room pair.sized row.half (omega arith) pair))
    in
    let W : ℕ → Type 0 = λ n. SweepsWords couplings other rule c.args.draws.now colour z (n * (l / 2)) c.args.own.now new in
    let R : ℕ → Type 0 = λ n. IsRow l colour z n c.row_behind-row.result in
    record {
      words = subst W place both;
      row = subst R place third;
      counted = λ b h.
          let kept = plane-alike couplings other colour z b new old (y * (l / 2)) (λ j low. pair.before j (omega (arith, at.here))) in
          let first_more = row-counted couplings other colour z y b new around row lawful (omega arith) c.lend-around.ensures at in
          let second_more = row-counted couplings other colour z (y + 1) b new around behind lawful (omega arith) c.lend-around.ensures second in
          let width = ap (row_count new around behind b) (second.half ∙ sym at.half) in
          let end = ap (λ n. plane_count couplings other colour z new b (n * (l / 2))) place in
          omega (arith, c.sweep_pair.ensures.counted b h, c.pairs.invariant.counted b h, kept, first_more, second_more, width, end);
    }

pub returns-clause-swept : goal.returns-clause-swept
returns-clause-swept g c =
    let sites = c.args.sites.now in
    let l = sites.couplings.now.size in
    let end : 2 * c.pairs.i ≡ l = omega arith in
    let W : ℕ → Type 0 = λ n. SweepsWords sites.couplings.now c.args.other.now c.copy_in_order-rule.result c.args.draws.now sites.colour sites.z (n * (l / 2)) c.args.own.now c.pairs.own in
    let K : SlotRule → Type 0 = λ rule. SweepsWords sites.couplings.now c.args.other.now rule c.args.draws.now sites.colour sites.z (half_plane l) c.args.own.now c.pairs.own in
    subst K c.copy_in_order-rule.ensures (subst W end c.pairs.invariant.words)

pub returns-clause-counted : goal.returns-clause-counted
returns-clause-counted g c = λ b h.
    let sites = c.args.sites.now in
    let l = sites.couplings.now.size in
    let end : 2 * c.pairs.i ≡ l = omega arith in
    let Counted : ℕ → Type 0 = λ n.
    tallied c.pairs.counts b ≡ tallied c.args.counts.now b + plane_count sites.couplings.now c.args.other.now sites.colour sites.z c.pairs.own b (n * (l / 2)) in
    subst Counted end (c.pairs.invariant.counted b h)
