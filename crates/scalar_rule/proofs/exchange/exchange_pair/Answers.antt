use Rattle.std.proofs.Common.{◌≡◌, ◌+◌, ◌++◌, length, get_or, set, ap, sym, ◌∙◌, arith}
use Rattle.std.proofs.lemmas.List.{get_or_default, length-set}
use Rattle.scalar_rule.specs.Epoch.{slot_at}
use Rattle.scalar_rule.specs.Exchange.{cold_side, hot_side}
use Rattle.scalar_rule.specs.Turns.{exchanged_pair}
use Rattle.scalar_rule.proofs.PlaneSweeps.{written_over}
use Rattle.scalar_rule.proofs.SplitWrites.{split-set}
use Rattle.scalar_rule.proofs.exchange.exchange_pair.Goals as goal

pub returns-clause-slots : goal.returns-clause-slots
unfolding exchanged_pair
returns-clause-slots c =
    let plan = c.args.plan.now in
    let b = c.args.bit in
    let k = c.args.pair in
    let wheels = c.args.wheels.now in
    let slots = c.args.slots.now in
    let front = c.split_at_mut-colder.result.0.now in
    let back = c.split_at_mut-colder.result.1.now in
    let below = c.requires.slots in
    let cold : get_or front k c.index-colder-at.result ≡ slot_at slots k =
    c.split_at_mut-colder.ensures.by_index.0 k c.index-colder-at.result (omega arith)
    ∙ ap (λ xs. get_or xs k c.index-colder-at.result) c.as_mut_slice.ensures.value ∙ get_or_default slots k _ _ (omega arith) in
    let place : k + 1 + 0 ≡ k + 1 = omega arith in
    let hot : get_or back 0 c.index-hotter-0.result ≡ slot_at slots (k + 1) =
    c.split_at_mut-colder.ensures.by_index.1 0 c.index-hotter-0.result
    ∙ ap (λ xs. get_or xs (k + 1 + 0) c.index-hotter-0.result) c.as_mut_slice.ensures.value
    ∙ ap (λ j. get_or slots j c.index-hotter-0.result) place ∙ get_or_default slots (k + 1) _ _ below in
    let new_cold : c.exchange_slots.new.cold ≡ cold_side plan b k wheels (slot_at slots k) (slot_at slots (k + 1)) =
    c.exchange_slots.ensures.cold
    ∙ ap (λ s. cold_side plan b k wheels s (get_or back 0 c.index-hotter-0.result)) cold ∙ ap (λ s. cold_side plan b k wheels (slot_at slots k) s) hot in
    let new_hot : c.exchange_slots.new.hot ≡ hot_side plan b k wheels (slot_at slots k) (slot_at slots (k + 1)) =
    c.exchange_slots.ensures.hot
    ∙ ap (λ s. hot_side plan b k wheels s (get_or back 0 c.index-hotter-0.result)) cold ∙ ap (λ s. hot_side plan b k wheels (slot_at slots k) s) hot in
    let put = split-set slots front back k c.exchange_slots.new.cold c.exchange_slots.new.hot (sym c.as_mut_slice.ensures.value ∙ c.split_at_mut-colder.ensures.value) c.split_at_mut-colder.ensures.front_len in
    let long = ap length (sym put) ∙ length-set (set slots k c.exchange_slots.new.cold) (k + 1) c.exchange_slots.new.hot ∙ length-set slots k c.exchange_slots.new.cold in
    written_over slots (set front k c.exchange_slots.new.cold ++ set back 0 c.exchange_slots.new.hot) long ∙ sym put
    ∙ ap (λ s. set (set slots k s) (k + 1) c.exchange_slots.new.hot) new_cold
    ∙ ap (λ s. set (set slots k (cold_side plan b k wheels (slot_at slots k) (slot_at slots (k + 1)))) (k + 1) s) new_hot
