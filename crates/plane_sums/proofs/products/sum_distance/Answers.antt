-- Each family's sum is at most 2^30, and there are at most nine.
use Rattle.std.proofs.Common.{◌≡◌, ℕ, ◌+◌, ◌-◌, ◌^◌, ◌+ℤ◌, sym, ap, ◌∙◌, arith}
use Rattle.std.proofs.lemmas.Nat.{mul-le}
use Rattle.spin_model.specs.SignedSums.{sum_of}
use Rattle.measured_sums.proofs.BoundedSums.{sum-bound}
use Rattle.plane_sums.specs.Correlations.{product_sum}
use Rattle.plane_sums.proofs.Signed.{product-bound, signed-more, signed-none}
use Rattle.plane_sums.proofs.products.sum_distance.Goals as goal

pub families-init : goal.families-init
families-init c = λ b h.
    let none : c.args.from - c.args.from ≡ 0 = omega arith in
    rw none (c.no_totals.ensures b ∙ sym (signed-none (λ k. product_sum c.args.size c.args.numbers.now (c.args.from + k) c.args.r b)))

pub add_family-requires-clause-room : goal.add_family-requires-clause-room
add_family-requires-clause-room c = λ b h.
    let size = c.args.size in
    let count = c.families.family - c.args.from in
    let term = λ (k : ℕ). product_sum size c.args.numbers.now (c.args.from + k) c.args.r b in
    let each = sum-bound term (2 ^ 30) count (λ k below. product-bound size c.args.numbers.now (c.args.from + k) c.args.r b c.requires.size (λ m within. c.requires.within (c.args.from + k) m b (omega (arith, c.requires.families)) within h)) in
    let all = mul-le count (2 ^ 30) 9 (2 ^ 30) (omega (arith, c.requires.families)) (omega arith) in
    rw (c.families.invariant b h) (omega (arith, each, all))

pub families-preserved : goal.families-preserved
families-preserved c = λ b h.
    let from = c.args.from in
    let family = c.families.family in
    let term = λ (k : ℕ). product_sum c.args.size c.args.numbers.now (from + k) c.args.r b in
    let next : family + 1 - from ≡ family - from + 1 = omega arith in
    let here : from + (family - from) ≡ family = omega arith in
    rw next (c.add_family.ensures b h
    ∙ ap (λ z. z +ℤ product_sum c.args.size c.args.numbers.now family c.args.r b) (c.families.invariant b h)
    ∙ ap (λ f. sum_of term (family - from) +ℤ product_sum c.args.size c.args.numbers.now f c.args.r b) (sym here)
    ∙ sym (signed-more term (family - from)))
