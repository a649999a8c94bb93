use Rattle.std.proofs.Common.{◌≡◌, ℕ, ◌+◌, ◌<◌, List, refl, sym, subst, ◌∙◌, arith}
use Rattle.scalar_rule.specs.Plan.{pairs_of}
use Rattle.scalar_rule.specs.Turns.{after_turn}
use Rattle.scalar_rule.specs.declared.sample.PlainSlot.{PlainSlot}
use Rattle.scalar_rule.specs.declared.sample.PlainPair.{PlainPair}
use Rattle.scalar_rule.proofs.PairTurns.{Exchanging, exchanging-zero, exchanging-more, exchanging-slots, exchanging-pairs}
use Rattle.measured_run.specs.Cells.{slots_in, pairs_in}
use Rattle.measured_run.proofs.Pairs.{slots-long, pairs-long, same-count, same-pairs}
use Rattle.measured_run.proofs.exchanging.exchange_pairs.Goals as goal

pub turns-init : goal.turns-init
turns-init c =
    let plan = c.args.plan.now in
    record {
      slots = λ b h. exchanging-zero plan b c.args.epoch (pairs_in c.args.pairs.now) (slots_in plan.size b c.args.cells.now)
          (let long = slots-long plan.size b c.args.cells.now in omega (arith, long, c.requires.cells, c.slots-pair-end.ensures.lawful.rules.some));
      count = c.requires.cells;
      pairs = c.requires.pairs;
      fits = c.requires.fits;
      wheels = c.requires.wheels;
      sums = refl;
      counted = c.requires.counted;
    }

pub turns-preserved : goal.turns-preserved
turns-preserved c =
    let plan = c.args.plan.now in
    let e = c.args.epoch in
    let k = c.turns.pair in
    let count = c.slots-pair-end.ensures.value in
    let below : k < pairs_of plan = omega arith in
    let inv = c.turns.invariant in
    let done = c.exchange_in_turn.ensures in
    let pairs = pairs_in c.args.pairs.now in
    record {
      slots = λ b h.
          let slots = slots_in plan.size b c.args.cells.now in
          let more = exchanging-more plan b e k pairs (pairs_in c.turns.pairs) slots (slots_in plan.size b c.turns.cells)
          (slots-long plan.size b c.args.cells.now ∙ c.requires.cells) (pairs-long c.args.pairs.now ∙ c.requires.pairs) below (inv.slots b h) in
          let S : List PlainSlot → Type 0 = λ xs. Exchanging plan b e pairs slots (pairs_in c.exchange_in_turn.new.pairs) xs (k + 1) in
          let P : List PlainPair → Type 0 = λ ps. Exchanging plan b e pairs slots ps (after_turn plan b k e (pairs_in c.turns.pairs) (slots_in plan.size b c.turns.cells)) (k + 1) in
          subst S (sym (done.slots b h)) (subst P (sym done.wheels) more);
      count = same-count _ _ done.sums ∙ inv.count;
      pairs = same-pairs k e _ _ done.wheels ∙ inv.pairs;
      fits = done.fits;
      wheels = done.wheels_fit;
      sums = done.sums ∙ inv.sums;
      counted = done.counted;
    }

pub returns : goal.returns
returns c =
    let plan = c.args.plan.now in
    let e = c.args.epoch in
    let count = c.slots-pair-end.ensures.value in
    let all : c.turns.pair ≡ pairs_of plan = omega arith in
    let inv = c.turns.invariant in
    let pairs = pairs_in c.args.pairs.now in
    let ended = λ (b : ℕ) (h : b < 64).
    subst (λ n. Exchanging plan b e pairs (slots_in plan.size b c.args.cells.now) (pairs_in c.turns.pairs) (slots_in plan.size b c.turns.cells) n) all (inv.slots b h) in
    record {
      slots = λ b h. exchanging-slots plan b e pairs (pairs_in c.turns.pairs) (slots_in plan.size b c.args.cells.now) (slots_in plan.size b c.turns.cells)
          (slots-long plan.size b c.args.cells.now ∙ c.requires.cells) c.slots-pair-end.ensures.lawful.rules.some (ended b h);
      wheels = exchanging-pairs plan 0 e pairs (pairs_in c.turns.pairs) (slots_in plan.size 0 c.args.cells.now) (slots_in plan.size 0 c.turns.cells)
          (pairs-long c.args.pairs.now ∙ c.requires.pairs) (ended 0 (omega arith));
      fits = inv.fits;
      wheels_fit = inv.wheels;
      sums = inv.sums;
    }
