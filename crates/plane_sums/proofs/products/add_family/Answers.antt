-- Each product is at most 2^24, and there are at most 64.
use Rattle.std.proofs.Common.{◌≡◌, ℕ, ◌+◌, ◌^◌, ◌%◌, ◌+ℤ◌, ◌*ℤ◌, [], get_or, sym, ap, ◌∙◌, arith}
use Rattle.std.proofs.lemmas.Nat.{mod_below, mul-le}
use Rattle.measured_sums.proofs.BoundedSums.{sum-bound}
use Rattle.plane_sums.specs.Correlations.{signed_at}
use Rattle.plane_sums.proofs.Signed.{product-small, signed-more, signed-none}
use Rattle.plane_sums.proofs.products.add_family.Goals as goal

pub planes-init : goal.planes-init
planes-init c = λ b h.
    let planes = c.args.planes.now in
    c.no_sums-sums.ensures b
    ∙ sym (signed-none (λ m. signed_at (get_or planes m []) b *ℤ signed_at (get_or planes ((m + c.args.r) % c.args.size) []) b))

pub add_products-requires-clause-room : goal.add_products-requires-clause-room
add_products-requires-clause-room c = λ b h.
    let planes = c.args.planes.now in
    let size = c.args.size in
    let r = c.args.r in
    let term = λ (m : ℕ). signed_at (get_or planes m []) b *ℤ signed_at (get_or planes ((m + r) % size) []) b in
    let each = sum-bound term (2 ^ 24) c.planes.m (λ m below.
    product-small (signed_at (get_or planes m []) b) (signed_at (get_or planes ((m + r) % size) []) b) (c.requires.within m b (omega arith) h)
    (c.requires.within ((m + r) % size) b (mod_below (m + r) size (omega (arith, c.requires.size))) h)) in
    let all = mul-le c.planes.m (2 ^ 24) 64 (2 ^ 24) (omega (arith, c.requires.size)) (omega arith) in
    rw (c.planes.invariant b h) (omega (arith, each, all))

pub planes-preserved : goal.planes-preserved
planes-preserved c = λ b h.
    let planes = c.args.planes.now in
    let size = c.args.size in
    let r = c.args.r in
    let term = λ (m : ℕ). signed_at (get_or planes m []) b *ℤ signed_at (get_or planes ((m + r) % size) []) b in
    c.add_products.ensures b h ∙ ap (λ z. z +ℤ term c.planes.m) (c.planes.invariant b h) ∙ sym (signed-more term c.planes.m)

pub widen-requires-clause-sums : goal.widen-requires-clause-sums
widen-requires-clause-sums c = λ b h.
    let planes = c.args.planes.now in
    let size = c.args.size in
    let r = c.args.r in
    let term = λ (m : ℕ). signed_at (get_or planes m []) b *ℤ signed_at (get_or planes ((m + r) % size) []) b in
    let each = sum-bound term (2 ^ 24) c.planes.m (λ m below.
    product-small (signed_at (get_or planes m []) b) (signed_at (get_or planes ((m + r) % size) []) b) (c.requires.within m b (omega arith) h)
    (c.requires.within ((m + r) % size) b (mod_below (m + r) size (omega (arith, c.requires.size))) h)) in
    let all = mul-le c.planes.m (2 ^ 24) 64 (2 ^ 24) (omega (arith, c.requires.size)) (omega arith) in
    rw (c.planes.invariant b h) (omega (arith, each, all))

pub returns : goal.returns
returns c = λ b h.
    let planes = c.args.planes.now in
    let last : c.planes.m ≡ c.args.size = omega arith in
    c.widen.ensures b h ∙ ap (λ z. signed_at c.args.out.now b +ℤ z) (rw last at (c.planes.invariant b h))
