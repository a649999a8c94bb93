-- Each half adds the worths of its samples, and keeps the other half's.
use Rattle.std.proofs.Common.{◌≡◌, ◌+◌, ◌*◌, ◌^◌, slice_index, refl, ◌∙◌, arith}
use Rattle.multispin_word.specs.Planes.{is_set, one_if}
use Rattle.multispin_word.proofs.Halves.{by_halves}
use Rattle.multispin_word.proofs.planes.add_worths.Goals as goal

pub returns : goal.returns
returns c =
    let new = c.add_half-2.new.out in
    let old = c.args.out.now in
    by_halves (λ b. slice_index new b ≡ slice_index old b + 2 ^ c.args.plane * one_if (is_set c.args.word b))
    (λ b h.
    let place : 0 + b ≡ b = omega arith in
    let added = rw place at (c.add_half.ensures.added b h) in
    c.add_half-2.ensures.below b h ∙ added ∙ rw (c.halves-low.ensures.low b h) refl)
    (λ b h. c.add_half-2.ensures.added b h
    ∙ rw (c.add_half.ensures.above (32 + b) (omega arith), c.halves-low.ensures.high b h) refl)
