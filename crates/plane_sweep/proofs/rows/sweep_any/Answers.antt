use Rattle.std.proofs.Common.{◌≡◌, ℕ, ◌+◌, ◌*◌, ◌/◌, refl, ap, subst, arith}
use Rattle.spin_model.specs.Lattice.{half_plane}
use Rattle.threshold_table.specs.declared.rule_table.SlotRule.{SlotRule}
use Rattle.plane_sweep.specs.PlaneSweep.{SweepsWords, IsRow}
use Rattle.plane_sweep.proofs.RowSteps.{here-within, up-within, rows-joined}
use Rattle.plane_sweep.proofs.RowSweeps.{rows-none, pair-swept}
use Rattle.plane_sweep.proofs.SixWords.{rows-lent, half_plane-few}
use Rattle.plane_sweep.proofs.rows.sweep_any.Goals as goal

pub row_behind-behind-requires-clause-few : goal.row_behind-behind-requires-clause-few
row_behind-behind-requires-clause-few c =
    let same = c.size-size.ensures.value in
    let lawful = c.requires.lawful in
    rw same (half_plane-few c.args.sites.now.couplings.now.size (omega arith))

pub row_behind-behind-requires-clause-here : goal.row_behind-behind-requires-clause-here
row_behind-behind-requires-clause-here c =
    let same = c.size-size.ensures.value in
    rw same (here-within c.args.sites.now.couplings.now.size c.args.sites.now.colour c.args.sites.now.z (2 * c.pairs.i) c.pairs.row (omega arith) c.pairs.invariant.row)

pub row_behind-behind-requires-clause-up : goal.row_behind-behind-requires-clause-up
row_behind-behind-requires-clause-up c =
    let same = c.size-size.ensures.value in
    rw same (up-within c.args.sites.now.couplings.now.size c.args.sites.now.colour c.args.sites.now.z (2 * c.pairs.i) c.pairs.row c.requires.lawful c.pairs.invariant.row)

pub sweep_pair-requires-clause-rows : goal.sweep_pair-requires-clause-rows
sweep_pair-requires-clause-rows c =
    rows-lent c.args.sites.now.couplings.now c.args.other.now c.args.sites.now.colour c.args.sites.now.z (2 * c.pairs.i) c.lend-around.result c.pairs.row
    c.requires.lawful (omega arith) c.lend-around.ensures c.pairs.invariant.row

pub sweep_pair-requires-clause-rows_behind : goal.sweep_pair-requires-clause-rows_behind
sweep_pair-requires-clause-rows_behind c =
    let l = c.args.sites.now.couplings.now.size in
    let whole = ap (λ n. n * (n / 2)) c.size-size.ensures.value in
    let second = c.row_behind-behind.ensures l c.args.sites.now.colour c.args.sites.now.z (2 * c.pairs.i) c.requires.lawful (omega arith) whole c.pairs.invariant.row in
    rows-lent c.args.sites.now.couplings.now c.args.other.now c.args.sites.now.colour c.args.sites.now.z (2 * c.pairs.i + 1) c.lend-around.result c.row_behind-behind.result
    c.requires.lawful (omega arith) c.lend-around.ensures second

pub sweep_pair-requires-clause-behind : goal.sweep_pair-requires-clause-behind
sweep_pair-requires-clause-behind c =
    let l = c.args.sites.now.couplings.now.size in
    let whole = ap (λ n. n * (n / 2)) c.size-size.ensures.value in
    let second = c.row_behind-behind.ensures l c.args.sites.now.colour c.args.sites.now.z (2 * c.pairs.i) c.requires.lawful (omega arith) whole c.pairs.invariant.row in
    rows-joined l c.args.sites.now.colour c.args.sites.now.z (2 * c.pairs.i) c.pairs.row c.row_behind-behind.result c.requires.lawful c.pairs.invariant.row second

pub row_behind-row-requires-clause-here : goal.row_behind-row-requires-clause-here
row_behind-row-requires-clause-here c =
    let l = c.args.sites.now.couplings.now.size in
    let same = c.size-size.ensures.value in
    let whole = ap (λ n. n * (n / 2)) same in
    let second = c.row_behind-behind.ensures l c.args.sites.now.colour c.args.sites.now.z (2 * c.pairs.i) c.requires.lawful (omega arith) whole c.pairs.invariant.row in
    rw same (here-within l c.args.sites.now.colour c.args.sites.now.z (2 * c.pairs.i + 1) c.row_behind-behind.result (omega arith) second)

pub row_behind-row-requires-clause-up : goal.row_behind-row-requires-clause-up
row_behind-row-requires-clause-up c =
    let l = c.args.sites.now.couplings.now.size in
    let same = c.size-size.ensures.value in
    let whole = ap (λ n. n * (n / 2)) same in
    let second = c.row_behind-behind.ensures l c.args.sites.now.colour c.args.sites.now.z (2 * c.pairs.i) c.requires.lawful (omega arith) whole c.pairs.invariant.row in
    rw same (up-within l c.args.sites.now.colour c.args.sites.now.z (2 * c.pairs.i + 1) c.row_behind-behind.result c.requires.lawful second)

pub pairs-init : goal.pairs-init
pairs-init c =
    let R : ℕ → Type 0 = λ n. IsRow n c.args.sites.now.colour c.args.sites.now.z 0 c.first_row-row.result in
    record {
      words = rows-none c.args.sites.now.couplings.now c.args.other.now c.copy-rule.result c.args.draws.now c.args.sites.now.colour c.args.sites.now.z c.args.own.now;
      row = subst R c.size-size.ensures.value (c.first_row-row.ensures c.args.sites.now.colour c.args.sites.now.z refl);
    }

pub pairs-preserved : goal.pairs-preserved
pairs-preserved c =
    let lawful = c.requires.lawful in
    let couplings = c.args.sites.now.couplings.now in
    let l = couplings.size in
    let y = 2 * c.pairs.i in
    let rule : SlotRule = c.copy-rule.result in
    let whole = ap (λ n. n * (n / 2)) c.size-size.ensures.value in
    let second = c.row_behind-behind.ensures l c.args.sites.now.colour c.args.sites.now.z y lawful (omega arith) whole c.pairs.invariant.row in
    let both =
    pair-swept couplings c.args.other.now rule c.args.draws.now c.args.sites.now.colour c.args.sites.now.z y c.lend-around.result c.pairs.row c.row_behind-behind.result c.args.own.now c.pairs.own c.sweep_pair.new.own
    lawful (omega arith) c.requires.own c.lend-around.ensures c.pairs.invariant.row second c.pairs.invariant.words c.sweep_pair.ensures
    in
    let third = c.row_behind-row.ensures l c.args.sites.now.colour c.args.sites.now.z (y + 1) lawful (omega arith) whole second in
    let place : y + 1 + 1 ≡ 2 * (c.pairs.i + 1) = omega arith in
    let W : ℕ → Type 0 = λ n. SweepsWords couplings c.args.other.now rule c.args.draws.now c.args.sites.now.colour c.args.sites.now.z (n * (l / 2)) c.args.own.now c.sweep_pair.new.own in
    let R : ℕ → Type 0 = λ n. IsRow l c.args.sites.now.colour c.args.sites.now.z n c.row_behind-row.result in
    record { words = subst W place both; row = subst R place third }

pub returns : goal.returns
returns c =
    let l = c.args.sites.now.couplings.now.size in
    let lawful = c.requires.lawful in
    let same = c.size-size.ensures.value in
    let end : 2 * c.pairs.i ≡ l = omega arith in
    let W : ℕ → Type 0 = λ n. SweepsWords c.args.sites.now.couplings.now c.args.other.now c.copy-rule.result c.args.draws.now c.args.sites.now.colour c.args.sites.now.z (n * (l / 2)) c.args.own.now c.pairs.own in
    let K : SlotRule → Type 0 = λ rule. SweepsWords c.args.sites.now.couplings.now c.args.other.now rule c.args.draws.now c.args.sites.now.colour c.args.sites.now.z (half_plane l) c.args.own.now c.pairs.own in
    subst K c.copy-rule.ensures (subst W end c.pairs.invariant.words)
