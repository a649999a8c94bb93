-- The product is at most 2^24, and the sum stays below 2^31.
use Rattle.std.proofs.Common.{◌^◌, ◌+ℤ◌, ◌*ℤ◌, w16, w32, arith}
use Rattle.std.proofs.lemmas.Int.{to_z-of_z}
use Rattle.plane_sums.proofs.Signed.{fits-32, product-small, sum-small}
use Rattle.plane_sums.proofs.products.plus_product.Goals as goal

pub overflow_add-result : goal.overflow_add-result
overflow_add-result c =
    let s = c.args.sum in
    let a = c.args.first in
    let b = c.args.second in
    let small = product-small a b c.requires.first c.requires.second in
    let whole = sum-small s (a *ℤ b) (2 ^ 30) (2 ^ 24) c.requires.sum small in
    let first = fits-32 a (omega (arith, c.requires.first)) in
    let second = fits-32 b (omega (arith, c.requires.second)) in
    let product = fits-32 (a *ℤ b) (omega (arith, small)) in
    rw (to_z-of_z w32 s c.ranges.sum, to_z-of_z w16 a c.ranges.first, to_z-of_z w16 b c.ranges.second, to_z-of_z w32 a first, to_z-of_z w32 b second, to_z-of_z w32 (a *ℤ b) product)
    (fits-32 (s +ℤ a *ℤ b) (omega (arith, whole)))

pub returns : goal.returns
returns c =
    let s = c.args.sum in
    let a = c.args.first in
    let b = c.args.second in
    let small = product-small a b c.requires.first c.requires.second in
    let whole = sum-small s (a *ℤ b) (2 ^ 30) (2 ^ 24) c.requires.sum small in
    let first = fits-32 a (omega (arith, c.requires.first)) in
    let second = fits-32 b (omega (arith, c.requires.second)) in
    let product = fits-32 (a *ℤ b) (omega (arith, small)) in
    rw (to_z-of_z w32 s c.ranges.sum, to_z-of_z w16 a c.ranges.first, to_z-of_z w16 b c.ranges.second, to_z-of_z w32 a first, to_z-of_z w32 b second, to_z-of_z w32 (a *ℤ b) product)
    (to_z-of_z w32 (s +ℤ a *ℤ b) (fits-32 (s +ℤ a *ℤ b) (omega (arith, whole))))
