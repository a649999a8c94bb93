-- The slots before and behind the cut are written.
use Rattle.std.specs.Prelude.{All}
use Rattle.std.proofs.Common.{◌≡◌, ◌+◌, ◌<◌, ◌++◌, length, get_or, set, ap, sym, subst, ◌∙◌, arith}
use Rattle.std.proofs.lemmas.List.{get_or_default}
use Rattle.std.proofs.lemmas.List.Elements.{All-set}
use Rattle.scalar_rule.proofs.SplitWrites.{split-set}
use Rattle.plane_sweep.specs.Packed.{part_pair, FitsDuo}
use Rattle.plane_sums.specs.Bins.{SumsView}
use Rattle.measured_run.specs.Cells.{slots_in, sums_in}
use Rattle.measured_run.specs.declared.cell.Cell.{Cell}
use Rattle.measured_run.proofs.Pairs.{pair-slots, both-same}
use Rattle.measured_run.proofs.exchanging.exchange_pair.Goals as goal
use Rattle.measured_run.proofs.exchanging.exchange_pair.Goals.{After-trade}

put : (c : After-trade) → set (set c.args.cells.now c.args.pair.now.number c.trade.new.cold) (c.args.pair.now.number + 1) c.trade.new.hot
    ≡ set c.split_at_mut-colder.result.0.now c.args.pair.now.number c.trade.new.cold ++ set c.split_at_mut-colder.result.1.now 0 c.trade.new.hot
put c =
    split-set c.args.cells.now c.split_at_mut-colder.result.0.now c.split_at_mut-colder.result.1.now c.args.pair.now.number c.trade.new.cold c.trade.new.hot
    c.split_at_mut-colder.ensures.value c.split_at_mut-colder.ensures.front_len

below : (c : After-trade) → c.args.pair.now.number + 1 < length c.args.cells.now
below c = omega (arith, c.requires.pair, c.requires.cells)

-- the slots that were exchanged
abbrev cold : After-trade → Cell
cold c = get_or c.split_at_mut-colder.result.0.now c.args.pair.now.number c.index-colder-at.result

abbrev hot : After-trade → Cell
hot c = get_or c.split_at_mut-colder.result.1.now 0 c.index-hotter-0.result

cold-at : (c : After-trade) → get_or c.args.cells.now c.args.pair.now.number (cold c) ≡ cold c
cold-at c =
    let front = c.split_at_mut-colder.result.0.now in
    let k = c.args.pair.now.number in
    sym (c.split_at_mut-colder.ensures.by_index.0 k (cold c) (omega (arith, c.split_at_mut-colder.ensures.front_len)))
    ∙ get_or_default front k (cold c) c.index-colder-at.result (omega (arith, c.split_at_mut-colder.ensures.front_len))

hot-at : (c : After-trade) → get_or c.args.cells.now (c.args.pair.now.number + 1) (hot c) ≡ hot c
hot-at c =
    let back = c.split_at_mut-colder.result.1.now in
    let place : c.args.pair.now.number + 1 + 0 ≡ c.args.pair.now.number + 1 = omega arith in
    ap (λ j. get_or c.args.cells.now j (hot c)) (sym place)
    ∙ sym (c.split_at_mut-colder.ensures.by_index.1 0 (hot c))
    ∙ get_or_default back 0 (hot c) c.index-hotter-0.result (omega (arith, c.split_at_mut-colder.ensures.back_len, below c))

pub returns-clause-slots : goal.returns-clause-slots
returns-clause-slots c = λ b h.
    let at = (goal.at.returns-clause-slots c).After-trade in
    let plan = c.args.pair.now.plan.now in
    let k = c.args.pair.now.number in
    let new =
    pair-slots plan plan.size b k (part_pair c.args.wheels.now) c.args.cells.now (cold at) (hot at) c.trade.new.cold c.trade.new.hot (below at) (cold-at at) (hot-at at)
    (c.trade.ensures.cold.traded b h) (c.trade.ensures.hot.traded b h) in
    ap (slots_in plan.size b) (sym (put at)) ∙ new

pub returns-clause-fits : goal.returns-clause-fits
returns-clause-fits c =
    let at = (goal.at.returns-clause-fits c).After-trade in
    let plan = c.args.pair.now.plan.now in
    let k = c.args.pair.now.number in
    let F : Cell → Type 0 = λ cell. FitsDuo plan.size cell.duo in
    subst (All F) (put at)
    (All-set F (set c.args.cells.now k c.trade.new.cold) (k + 1) c.trade.new.hot c.trade.ensures.hot.fits
    (All-set F c.args.cells.now k c.trade.new.cold c.trade.ensures.cold.fits c.requires.fits))

pub returns-clause-sums : goal.returns-clause-sums
returns-clause-sums c =
    let at = (goal.at.returns-clause-sums c).After-trade in
    let k = c.args.pair.now.number in
    let g : Cell → SumsView = λ cell. cell.sums in
    let own : c.trade.new.cold.sums ≡ (get_or c.args.cells.now k (cold at)).sums = c.trade.ensures.cold.sums ∙ ap g (sym (cold-at at)) in
    let far = get_or_default c.args.cells.now (k + 1) (hot at) (cold at) (below at) in
    let next : c.trade.new.hot.sums ≡ (get_or c.args.cells.now (k + 1) (cold at)).sums = c.trade.ensures.hot.sums ∙ ap g (sym (hot-at at)) ∙ ap g far in
    ap sums_in (sym (put at)) ∙ both-same g c.args.cells.now k c.trade.new.cold c.trade.new.hot (cold at) own next
