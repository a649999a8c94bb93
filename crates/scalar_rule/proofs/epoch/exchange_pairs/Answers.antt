use Rattle.std.proofs.Common.{◌≡◌, ℕ, ◌+◌, ◌<◌, List, sym, subst, arith}
use Rattle.scalar_rule.specs.Plan.{pairs_of}
use Rattle.scalar_rule.specs.Shape.{FitSlots}
use Rattle.scalar_rule.specs.Turns.{after_turn}
use Rattle.scalar_rule.specs.declared.sample.PlainSlot.{PlainSlot}
use Rattle.scalar_rule.specs.declared.sample.PlainPair.{PlainPair}
use Rattle.scalar_rule.proofs.PairTurns.{Exchanging, exchanging-more, exchanging-slots, exchanging-pairs, exchanged-all-fit}
use Rattle.scalar_rule.proofs.epoch.exchange_pairs.Goals as goal

pub turns-preserved : goal.turns-preserved
turns-preserved c =
    let plan = c.args.plan.now in
    let b = c.args.bit in
    let e = c.args.epoch in
    let pairs = c.args.pairs.now in
    let slots = c.args.slots.now in
    let k = c.turns.pair in
    let count = c.slots-pair-end.ensures.value in
    let below : k < pairs_of plan = omega arith in
    let S : List PlainSlot → Type 0 = λ xs. Exchanging plan b e pairs slots c.exchange_in_turn.new.pairs xs (k + 1) in
    let P : List PlainPair → Type 0 = λ ps. Exchanging plan b e pairs slots ps (after_turn plan b k e c.turns.pairs c.turns.slots) (k + 1) in
    let more = exchanging-more plan b e k pairs c.turns.pairs slots c.turns.slots c.requires.slots.count c.requires.pairs below c.turns.invariant in
    subst S (sym c.exchange_in_turn.ensures.slots) (subst P (sym c.exchange_in_turn.ensures.pairs) more)

pub returns-clause-slots : goal.returns-clause-slots
returns-clause-slots c =
    let plan = c.args.plan.now in
    let count = c.slots-pair-end.ensures.value in
    let all : c.turns.pair ≡ pairs_of plan = omega arith in
    let P : ℕ → Type 0 = λ n. Exchanging plan c.args.bit c.args.epoch c.args.pairs.now c.args.slots.now c.turns.pairs c.turns.slots n in
    exchanging-slots plan c.args.bit c.args.epoch c.args.pairs.now c.turns.pairs c.args.slots.now c.turns.slots c.requires.slots.count c.slots-pair-end.ensures.lawful.rules.some (subst P all c.turns.invariant)

pub returns-clause-pairs : goal.returns-clause-pairs
returns-clause-pairs c =
    let plan = c.args.plan.now in
    let count = c.slots-pair-end.ensures.value in
    let all : c.turns.pair ≡ pairs_of plan = omega arith in
    let P : ℕ → Type 0 = λ n. Exchanging plan c.args.bit c.args.epoch c.args.pairs.now c.args.slots.now c.turns.pairs c.turns.slots n in
    exchanging-pairs plan c.args.bit c.args.epoch c.args.pairs.now c.turns.pairs c.args.slots.now c.turns.slots c.requires.pairs (subst P all c.turns.invariant)

pub returns-clause-fits : goal.returns-clause-fits
returns-clause-fits c =
    let plan = c.args.plan.now in
    let F : List PlainSlot → Type 0 = λ xs. FitSlots plan xs in
    subst F (sym (returns-clause-slots c)) (exchanged-all-fit plan c.args.bit c.args.epoch c.args.pairs.now c.args.slots.now c.requires.slots)
