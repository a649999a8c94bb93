use Rattle.std.proofs.Common.{◌≡◌, ℕ, ◌+◌, ◌*◌, ◌/◌, sym, ap, subst, arith}
use Rattle.spin_model.specs.Lattice.{half_plane}
use Rattle.threshold_table.specs.declared.rule_table.SlotRule.{SlotRule}
use Rattle.plane_sweep.specs.PlaneSweep.{SweepsWords, IsRow}
use Rattle.plane_sweep.proofs.RowSteps.{here-within, up-within, rows-joined}
use Rattle.plane_sweep.proofs.RowSweeps.{rows-none, pair-swept}
use Rattle.plane_sweep.proofs.SixWords.{rows-lent}
use Rattle.plane_sweep.proofs.duo_rows.sweep_rows_of_duo.Goals as goal

pub sweep_pair-requires-clause-rows : goal.sweep_pair-requires-clause-rows
sweep_pair-requires-clause-rows g c =
    rows-lent c.args.sites.now.couplings.now c.args.others.now.first.now c.args.sites.now.colour c.args.sites.now.z (2 * c.pairs.i) c.lend-around.result c.pairs.row
    c.requires.lawful (omega arith) c.lend-around.ensures c.pairs.invariant.row

pub sweep_pair-requires-in-pairs-clause-rows : goal.sweep_pair-requires-in-pairs-clause-rows
sweep_pair-requires-in-pairs-clause-rows g c =
    rows-lent c.args.sites.now.couplings.now c.args.others.now.second.now c.args.sites.now.colour c.args.sites.now.z (2 * c.pairs.i) c.lend-beyond.result c.pairs.row
    c.requires.lawful (omega arith) c.lend-beyond.ensures c.pairs.invariant.row

pub row_behind-behind-requires-clause-here : goal.row_behind-behind-requires-clause-here
row_behind-behind-requires-clause-here g c =
    let same = sym c.requires.size in
    rw same (here-within c.args.sites.now.couplings.now.size c.args.sites.now.colour c.args.sites.now.z (2 * c.pairs.i) c.pairs.row (omega arith) c.pairs.invariant.row)

pub row_behind-behind-requires-clause-up : goal.row_behind-behind-requires-clause-up
row_behind-behind-requires-clause-up g c =
    let same = sym c.requires.size in
    rw same (up-within c.args.sites.now.couplings.now.size c.args.sites.now.colour c.args.sites.now.z (2 * c.pairs.i) c.pairs.row c.requires.lawful c.pairs.invariant.row)

pub sweep_pair-requires-clause-rows_behind : goal.sweep_pair-requires-clause-rows_behind
sweep_pair-requires-clause-rows_behind g c =
    let l = c.args.sites.now.couplings.now.size in
    let whole = ap (λ n. n * (n / 2)) (sym c.requires.size) in
    let next = c.row_behind-behind.ensures l c.args.sites.now.colour c.args.sites.now.z (2 * c.pairs.i) c.requires.lawful (omega arith) whole c.pairs.invariant.row in
    rows-lent c.args.sites.now.couplings.now c.args.others.now.first.now c.args.sites.now.colour c.args.sites.now.z (2 * c.pairs.i + 1) c.lend-around.result c.row_behind-behind.result
    c.requires.lawful (omega arith) c.lend-around.ensures next

pub sweep_pair-requires-in-pairs-clause-rows_behind : goal.sweep_pair-requires-in-pairs-clause-rows_behind
sweep_pair-requires-in-pairs-clause-rows_behind g c =
    let l = c.args.sites.now.couplings.now.size in
    let whole = ap (λ n. n * (n / 2)) (sym c.requires.size) in
    let next = c.row_behind-behind.ensures l c.args.sites.now.colour c.args.sites.now.z (2 * c.pairs.i) c.requires.lawful (omega arith) whole c.pairs.invariant.row in
    rows-lent c.args.sites.now.couplings.now c.args.others.now.second.now c.args.sites.now.colour c.args.sites.now.z (2 * c.pairs.i + 1) c.lend-beyond.result c.row_behind-behind.result
    c.requires.lawful (omega arith) c.lend-beyond.ensures next

pub sweep_pair-requires-clause-behind : goal.sweep_pair-requires-clause-behind
sweep_pair-requires-clause-behind g c =
    let l = c.args.sites.now.couplings.now.size in
    let whole = ap (λ n. n * (n / 2)) (sym c.requires.size) in
    let next = c.row_behind-behind.ensures l c.args.sites.now.colour c.args.sites.now.z (2 * c.pairs.i) c.requires.lawful (omega arith) whole c.pairs.invariant.row in
    rows-joined l c.args.sites.now.colour c.args.sites.now.z (2 * c.pairs.i) c.pairs.row c.row_behind-behind.result c.requires.lawful c.pairs.invariant.row next

pub sweep_pair-requires-in-pairs-clause-behind : goal.sweep_pair-requires-in-pairs-clause-behind
sweep_pair-requires-in-pairs-clause-behind g c =
    let l = c.args.sites.now.couplings.now.size in
    let whole = ap (λ n. n * (n / 2)) (sym c.requires.size) in
    let next = c.row_behind-behind.ensures l c.args.sites.now.colour c.args.sites.now.z (2 * c.pairs.i) c.requires.lawful (omega arith) whole c.pairs.invariant.row in
    rows-joined l c.args.sites.now.colour c.args.sites.now.z (2 * c.pairs.i) c.pairs.row c.row_behind-behind.result c.requires.lawful c.pairs.invariant.row next

pub row_behind-row-requires-clause-here : goal.row_behind-row-requires-clause-here
row_behind-row-requires-clause-here g c =
    let l = c.args.sites.now.couplings.now.size in
    let same = sym c.requires.size in
    let whole = ap (λ n. n * (n / 2)) same in
    let next = c.row_behind-behind.ensures l c.args.sites.now.colour c.args.sites.now.z (2 * c.pairs.i) c.requires.lawful (omega arith) whole c.pairs.invariant.row in
    rw same (here-within l c.args.sites.now.colour c.args.sites.now.z (2 * c.pairs.i + 1) c.row_behind-behind.result (omega arith) next)

pub row_behind-row-requires-clause-up : goal.row_behind-row-requires-clause-up
row_behind-row-requires-clause-up g c =
    let l = c.args.sites.now.couplings.now.size in
    let same = sym c.requires.size in
    let whole = ap (λ n. n * (n / 2)) same in
    let next = c.row_behind-behind.ensures l c.args.sites.now.colour c.args.sites.now.z (2 * c.pairs.i) c.requires.lawful (omega arith) whole c.pairs.invariant.row in
    rw same (up-within l c.args.sites.now.colour c.args.sites.now.z (2 * c.pairs.i + 1) c.row_behind-behind.result c.requires.lawful next)

pub pairs-init : goal.pairs-init
pairs-init g c =
    let rule : SlotRule = c.copy_in_order-rule.result in
    let R : ℕ → Type 0 = λ n. IsRow n c.args.sites.now.colour c.args.sites.now.z 0 c.first_row-row.result in
    record {
      first = rows-none c.args.sites.now.couplings.now c.args.others.now.first.now rule c.args.drawn.now.first.now c.args.sites.now.colour c.args.sites.now.z c.args.first.now;
      second = rows-none c.args.sites.now.couplings.now c.args.others.now.second.now rule c.args.drawn.now.second.now c.args.sites.now.colour c.args.sites.now.z c.args.second.now;
      row = subst R (sym c.requires.size) (c.first_row-row.ensures c.args.sites.now.colour c.args.sites.now.z c.requires.even);
    }

pub pairs-preserved : goal.pairs-preserved
pairs-preserved g c =
    let lawful = c.requires.lawful in
    let couplings = c.args.sites.now.couplings.now in
    let l = couplings.size in
    let y = 2 * c.pairs.i in
    let rule : SlotRule = c.copy_in_order-rule.result in
    let whole = ap (λ n. n * (n / 2)) (sym c.requires.size) in
    let at = c.pairs.invariant.row in
    let next = c.row_behind-behind.ensures l c.args.sites.now.colour c.args.sites.now.z y lawful (omega arith) whole at in
    let first_both =
    pair-swept couplings c.args.others.now.first.now rule c.args.drawn.now.first.now c.args.sites.now.colour c.args.sites.now.z y c.lend-around.result c.pairs.row c.row_behind-behind.result c.args.first.now c.pairs.first c.sweep_pair.new.own
    lawful (omega arith) c.requires.first.own_sized c.lend-around.ensures at next c.pairs.invariant.first c.sweep_pair.ensures
    in
    let second_both =
    pair-swept couplings c.args.others.now.second.now rule c.args.drawn.now.second.now c.args.sites.now.colour c.args.sites.now.z y c.lend-beyond.result c.pairs.row c.row_behind-behind.result c.args.second.now c.pairs.second c.sweep_pair-in-pairs.new.own
    lawful (omega arith) c.requires.second.own_sized c.lend-beyond.ensures at next c.pairs.invariant.second c.sweep_pair-in-pairs.ensures
    in
    let third = c.row_behind-row.ensures l c.args.sites.now.colour c.args.sites.now.z (y + 1) lawful (omega arith) whole next in
    let place : y + 1 + 1 ≡ 2 * (c.pairs.i + 1) = omega arith in
    let V : ℕ → Type 0 = λ n. SweepsWords couplings c.args.others.now.first.now rule c.args.drawn.now.first.now c.args.sites.now.colour c.args.sites.now.z (n * (l / 2)) c.args.first.now c.sweep_pair.new.own in
    let W : ℕ → Type 0 = λ n. SweepsWords couplings c.args.others.now.second.now rule c.args.drawn.now.second.now c.args.sites.now.colour c.args.sites.now.z (n * (l / 2)) c.args.second.now c.sweep_pair-in-pairs.new.own in
    let R : ℕ → Type 0 = λ n. IsRow l c.args.sites.now.colour c.args.sites.now.z n c.row_behind-row.result in
    record { first = subst V place first_both; second = subst W place second_both; row = subst R place third }

pub returns-clause-first : goal.returns-clause-first
returns-clause-first g c =
    let l = c.args.sites.now.couplings.now.size in
    let lawful = c.requires.lawful in
    let same = sym c.requires.size in
    let end : 2 * c.pairs.i ≡ l = omega arith in
    let W : ℕ → Type 0 = λ n. SweepsWords c.args.sites.now.couplings.now c.args.others.now.first.now c.copy_in_order-rule.result c.args.drawn.now.first.now c.args.sites.now.colour c.args.sites.now.z (n * (l / 2)) c.args.first.now c.pairs.first in
    let K : SlotRule → Type 0 = λ rule. SweepsWords c.args.sites.now.couplings.now c.args.others.now.first.now rule c.args.drawn.now.first.now c.args.sites.now.colour c.args.sites.now.z (half_plane l) c.args.first.now c.pairs.first in
    subst K c.copy_in_order-rule.ensures (subst W end c.pairs.invariant.first)

pub returns-clause-second : goal.returns-clause-second
returns-clause-second g c =
    let l = c.args.sites.now.couplings.now.size in
    let lawful = c.requires.lawful in
    let same = sym c.requires.size in
    let end : 2 * c.pairs.i ≡ l = omega arith in
    let W : ℕ → Type 0 = λ n. SweepsWords c.args.sites.now.couplings.now c.args.others.now.second.now c.copy_in_order-rule.result c.args.drawn.now.second.now c.args.sites.now.colour c.args.sites.now.z (n * (l / 2)) c.args.second.now c.pairs.second in
    let K : SlotRule → Type 0 = λ rule. SweepsWords c.args.sites.now.couplings.now c.args.others.now.second.now rule c.args.drawn.now.second.now c.args.sites.now.colour c.args.sites.now.z (half_plane l) c.args.second.now c.pairs.second in
    subst K c.copy_in_order-rule.ensures (subst W end c.pairs.invariant.second)
