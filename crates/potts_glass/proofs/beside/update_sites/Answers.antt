-- In each lane and sample six votes weigh the new colour against the old one.
use Rattle.std.proofs.Common.{◌≡◌, ◌+◌, ◌*◌, ◌||◌, true, if◌then◌else◌, slice_index, refl, sym, ap, ◌∙◌}
use Rattle.spin_model.specs.Words.{one_if}
use Rattle.potts_glass.specs.Potts as model
use Rattle.potts_glass.specs.PackedColours.{colour_in}
use Rattle.potts_glass.specs.SitesBeside.{bit_in, count_in, led_to, seen_in, site_in}
use Rattle.potts_glass.proofs.Cases.{advanced-bits, moved-bits, step-bits}
use Rattle.potts_glass.proofs.Colours.{colour-by_bits, votes-by_six}
use Rattle.potts_glass.proofs.beside.update_sites.Goals as goal

pub returns : goal.returns
returns g c = λ i b step h l few is.
    let own = c.args.own.now in
    let change = c.change_of-change.result in
    let around = seen_in c.args.near.now c.args.negative.now i b in
    let old = colour_in (site_in own i) b in
    let new = led_to own change i b in
    let p = bit_in c.args.steps.now 0 i b in
    let q = bit_in c.args.steps.now 1 i b in
    let x = bit_in own 0 i b in
    let low = c.change_of-change.ensures.low i b h in
    let high = c.change_of-change.ensures.high i b h in
    let digits : 1 + step ≡ one_if p + 2 * one_if q = step-bits step few ∙ rw ((is b l).0, (is b l).1) refl in
    let moves : (bit_in change 0 i b || bit_in change 1 i b) ≡ true = rw (low, high) (moved-bits x p q step digits) in
    let proposed : new ≡ model.proposed old step =
    rw (low, high) (advanced-bits x (bit_in own 1 i b) p q step digits few) ∙ ap (λ s. model.proposed s step) (sym (colour-by_bits (site_in own i) b)) in
    let front = c.sum_of-front.ensures i b h (c.vote.ensures.vote i b h) (c.vote-2.ensures.vote i b h) (c.vote-3.ensures.vote i b h) in
    let back = c.sum_of-back.ensures i b h (c.vote-4.ensures.vote i b h) (c.vote-5.ensures.vote i b h) (c.vote-6.ensures.vote i b h) in
    let sum : model.votes around old new + (count_in c.sum_of-front.result i b + count_in c.sum_of-back.result i b) ≡ 6 + model.votes around new old =
    rw (front, back)
    (votes-by_six around old new _ _ _ _ _ _
    (c.vote.ensures.worth i b h moves) (c.vote-2.ensures.worth i b h moves) (c.vote-3.ensures.worth i b h moves)
    (c.vote-4.ensures.worth i b h moves) (c.vote-5.ensures.worth i b h moves) (c.vote-6.ensures.worth i b h moves)) in
    let made = c.made.ensures i b (model.votes around old new) (model.votes around new old) h l sum in
    c.changed.ensures i b h
    ∙ ap (λ m. if m then new else old) made
    ∙ ap (λ n. if model.is_made c.args.row.now.values (model.votes around old n) (model.votes around n old) (slice_index c.args.draws.now i) then n else old) proposed
