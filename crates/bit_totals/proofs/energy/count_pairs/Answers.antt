-- Two rows more at a time; in each the surroundings that are borrowed are those of the row.
use Rattle.std.proofs.Common.{◌≡◌, ℕ, ◌+◌, ◌*◌, ◌/◌, sym, ap, ◌∙◌, subst, arith}
use Rattle.std.proofs.Math.Nat.{add-mul}
use Rattle.spin_model.specs.Lattice.{IsLawfulSize}
use Rattle.plane_sweep.specs.PlaneSweep.{IsRow}
use Rattle.plane_sweep.proofs.RowSteps.{here-within, up-within}
use Rattle.plane_sweep.proofs.SixWords.{rows-lent, row-whole}
use Rattle.bit_totals.specs.RowBonds.{plane_count, row_count}
use Rattle.bit_totals.specs.Tallies.{tallied}
use Rattle.bit_totals.proofs.PlaceCounts.{plane-room}
use Rattle.bit_totals.proofs.PlaneBonds.{plane-le, plane-none, row-counted}
use Rattle.bit_totals.proofs.energy.count_pairs.Goals as goal

pub first_row-row-requires : goal.first_row-row-requires
first_row-row-requires g c = record { size = subst IsLawfulSize (sym c.requires.size) c.requires.lawful }

pub row_behind-behind-requires-clause-few : goal.row_behind-behind-requires-clause-few
row_behind-behind-requires-clause-few g c =
    let same = c.requires.size in
    rw same (plane-room c.args.plane.now.couplings.now.size c.requires.lawful)

pub row_behind-behind-requires-clause-here : goal.row_behind-behind-requires-clause-here
row_behind-behind-requires-clause-here g c =
    let same = c.requires.size in
    rw same (here-within c.args.plane.now.couplings.now.size c.args.plane.now.colour c.args.plane.now.z (2 * c.pairs.i) c.pairs.row (omega arith) c.pairs.invariant.row)

pub row_behind-behind-requires-clause-up : goal.row_behind-behind-requires-clause-up
row_behind-behind-requires-clause-up g c =
    let same = c.requires.size in
    rw same (up-within c.args.plane.now.couplings.now.size c.args.plane.now.colour c.args.plane.now.z (2 * c.pairs.i) c.pairs.row c.requires.lawful c.pairs.invariant.row)

pub add_rows-requires-clause-own : goal.add_rows-requires-clause-own
add_rows-requires-clause-own g c = c.requires.own ∙ sym c.lend-around.ensures.here_sized

pub add_rows-requires-clause-first : goal.add_rows-requires-clause-first
add_rows-requires-clause-first g c =
    rows-lent c.args.plane.now.couplings.now c.args.plane.now.other.now c.args.plane.now.colour c.args.plane.now.z (2 * c.pairs.i) c.lend-around.result c.pairs.row
    c.requires.lawful (omega arith) c.lend-around.ensures c.pairs.invariant.row

pub add_rows-requires-clause-second : goal.add_rows-requires-clause-second
add_rows-requires-clause-second g c =
    let l = c.args.plane.now.couplings.now.size in
    let whole = ap (λ n. n * (n / 2)) c.requires.size in
    let second = c.row_behind-behind.ensures l c.args.plane.now.colour c.args.plane.now.z (2 * c.pairs.i) c.requires.lawful (omega arith) whole c.pairs.invariant.row in
    rows-lent c.args.plane.now.couplings.now c.args.plane.now.other.now c.args.plane.now.colour c.args.plane.now.z (2 * c.pairs.i + 1) c.lend-around.result c.row_behind-behind.result
    c.requires.lawful (omega arith) c.lend-around.ensures second

pub add_rows-requires-clause-half : goal.add_rows-requires-clause-half
add_rows-requires-clause-half g c =
    let l = c.args.plane.now.couplings.now.size in
    let whole = ap (λ n. n * (n / 2)) c.requires.size in
    let second = c.row_behind-behind.ensures l c.args.plane.now.colour c.args.plane.now.z (2 * c.pairs.i) c.requires.lawful (omega arith) whole c.pairs.invariant.row in
    second.half ∙ sym c.pairs.invariant.row.half

pub add_rows-requires-clause-room : goal.add_rows-requires-clause-room
add_rows-requires-clause-room g c = λ b h.
    let couplings = c.args.plane.now.couplings.now in
    let l = couplings.size in
    let i = c.pairs.i in
    let counted = plane-le couplings c.args.plane.now.other.now c.args.plane.now.colour c.args.plane.now.z b c.args.plane.now.own.now (2 * i * (l / 2)) in
    let last = row-whole l (2 * i + 1) (omega arith) in
    let more = add-mul (2 * i) 1 (l / 2) in
    omega (arith, c.requires.room b h, c.pairs.invariant.counted b h, counted, last, more, c.pairs.invariant.row.half)

pub row_behind-row-requires-clause-few : goal.row_behind-row-requires-clause-few
row_behind-row-requires-clause-few g c =
    let same = c.requires.size in
    rw same (plane-room c.args.plane.now.couplings.now.size c.requires.lawful)

pub row_behind-row-requires-clause-here : goal.row_behind-row-requires-clause-here
row_behind-row-requires-clause-here g c =
    let l = c.args.plane.now.couplings.now.size in
    let same = c.requires.size in
    let whole = ap (λ n. n * (n / 2)) same in
    let second = c.row_behind-behind.ensures l c.args.plane.now.colour c.args.plane.now.z (2 * c.pairs.i) c.requires.lawful (omega arith) whole c.pairs.invariant.row in
    rw same (here-within l c.args.plane.now.colour c.args.plane.now.z (2 * c.pairs.i + 1) c.row_behind-behind.result (omega arith) second)

pub row_behind-row-requires-clause-up : goal.row_behind-row-requires-clause-up
row_behind-row-requires-clause-up g c =
    let l = c.args.plane.now.couplings.now.size in
    let same = c.requires.size in
    let whole = ap (λ n. n * (n / 2)) same in
    let second = c.row_behind-behind.ensures l c.args.plane.now.colour c.args.plane.now.z (2 * c.pairs.i) c.requires.lawful (omega arith) whole c.pairs.invariant.row in
    rw same (up-within l c.args.plane.now.colour c.args.plane.now.z (2 * c.pairs.i + 1) c.row_behind-behind.result c.requires.lawful second)

pub pairs-init : goal.pairs-init
pairs-init g c =
    let R : ℕ → Type 0 = λ n. IsRow n c.args.plane.now.colour c.args.plane.now.z 0 c.first_row-row.result in
    record {
      counted = λ b h. omega (arith, plane-none c.args.plane.now.couplings.now c.args.plane.now.other.now c.args.plane.now.colour c.args.plane.now.z b c.args.plane.now.own.now);
      row = subst R c.requires.size (c.first_row-row.ensures c.args.plane.now.colour c.args.plane.now.z c.requires.even);
    }

pub pairs-preserved : goal.pairs-preserved
pairs-preserved g c =
    let lawful = c.requires.lawful in
    let couplings = c.args.plane.now.couplings.now in
    let other = c.args.plane.now.other.now in
    let own = c.args.plane.now.own.now in
    let colour = c.args.plane.now.colour in
    let z = c.args.plane.now.z in
    let l = couplings.size in
    let y = 2 * c.pairs.i in
    let around = c.lend-around.result in
    let whole = ap (λ n. n * (n / 2)) c.requires.size in
    let second = c.row_behind-behind.ensures l colour z y lawful (omega arith) whole c.pairs.invariant.row in
    let third = c.row_behind-row.ensures l colour z (y + 1) lawful (omega arith) whole second in
    let place : y + 1 + 1 ≡ 2 * (c.pairs.i + 1) = omega arith in
    let R : ℕ → Type 0 = λ n. IsRow l colour z n c.row_behind-row.result in
    record {
      counted = λ b h.
          let one = row-counted couplings other colour z y b own around c.pairs.row lawful (omega arith) c.lend-around.ensures c.pairs.invariant.row in
          let two = row-counted couplings other colour z (y + 1) b own around c.row_behind-behind.result lawful (omega arith) c.lend-around.ensures second in
          let width = ap (row_count own around c.row_behind-behind.result b) (second.half ∙ sym c.pairs.invariant.row.half) in
          let end = ap (λ n. plane_count couplings other colour z own b (n * (l / 2))) place in
          omega (arith, c.add_rows.ensures b h, c.pairs.invariant.counted b h, one, two, width, end);
      row = subst R place third;
    }

pub returns : goal.returns
returns g c = λ b h.
    let plane = c.args.plane.now in
    let l = plane.couplings.now.size in
    let end : 2 * c.pairs.i ≡ l = omega arith in
    let Counted : ℕ → Type 0 = λ n.
    tallied c.pairs.counts b ≡ tallied c.args.counts.now b + plane_count plane.couplings.now plane.other.now plane.colour plane.z plane.own.now b (n * (l / 2)) in
    subst Counted end (c.pairs.invariant.counted b h)
