-- Each place is added.
use Rattle.std.proofs.Common.{◌*◌, ◌≤◌, sym, ◌∙◌, arith}
use Rattle.std.proofs.lemmas.Nat.{mul-le}
use Rattle.scalar_rule.proofs.Extremes.{sum-most}
use Rattle.plane_sums.specs.Counts.{count_at}
use Rattle.plane_sums.proofs.Sums.{sum-zero, sum-more}
use Rattle.plane_sums.proofs.totals.sum_of_line.Goals as goal

pub places-init : goal.places-init
places-init c = λ b h. c.zero-sum.ensures b ∙ sym (sum-zero (λ k. count_at c.args.line.now.planes k b))

pub add-requires : goal.add-requires
add-requires c = (
  omega arith,
  (
    omega arith,
    (
      omega arith,
      λ b h.
          let size = c.args.size in
          let k = c.places.k in
          let small = c.requires.small in
          let most = sum-most (λ j. count_at c.args.line.now.planes j b) k size (λ j below. small j b (omega arith) h) in
          let all : k * size ≤ 63 * 64 = mul-le k size 63 64 (omega (arith, c.requires.size)) (omega (arith, c.requires.size)) in
          omega (arith, c.places.invariant b h, c.number.ensures.value b, small k b (omega arith) h, most, all, c.requires.size),
    ),
  ),
)

pub places-preserved : goal.places-preserved
places-preserved c = λ b h.
    omega (arith, c.add.ensures b h, c.number.ensures.value b, sum-more (λ k. count_at c.args.line.now.planes k b) c.places.k, c.places.invariant b h)
