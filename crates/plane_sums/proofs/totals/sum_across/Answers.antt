-- Each line is added from the place on at which plane 0 meets it.
use Rattle.std.proofs.Common.{◌≡◌, ◌+◌, ◌*◌, ◌≤◌, ap, sym, ◌∙◌, arith}
use Rattle.std.proofs.lemmas.Nat.{mul-le}
use Rattle.scalar_rule.proofs.Extremes.{sum-most}
use Rattle.plane_sums.specs.Counts.{count_at, line_at}
use Rattle.plane_sums.specs.Lines.{begins_at}
use Rattle.plane_sums.proofs.Projecting.{line-is, begins-within}
use Rattle.plane_sums.proofs.Sums.{sum-zero, sum-more}
use Rattle.plane_sums.proofs.totals.sum_across.Goals as goal

pub lines-init : goal.lines-init
lines-init c = λ m b h i.
    c.clear.ensures m b h ∙ sym (sum-zero (λ o. count_at (line_at c.args.lines.now o) (begins_at c.args.turn c.args.size o + m) b))

pub add_counts-requires : goal.add_counts-requires
add_counts-requires c = (
  omega arith,
  (
    omega arith,
    (
      omega arith,
      (
        omega (arith, c.requires.size),
        (
          omega (arith, c.requires.size, c.begin.ensures.within),
          λ m b h i.
              let lines = c.args.lines.now in
              let size = c.args.size in
              let line = c.lines.line in
              let begin = c.begin.ensures.within in
              let small = c.requires.small in
              let own = ap (λ ps. count_at ps (c.begin.result + m) b) (line-is lines line c.at.result.now c.at.ensures (omega (arith, c.requires.lines, c.requires.size))) in
              let last = small line (c.begin.result + m) b (omega arith) (omega (arith, begin)) i in
              let before = c.lines.invariant m b h i in
              let most = sum-most (λ o. count_at (line_at lines o) (begins_at c.args.turn size o + m) b) line size
              (λ o below. small o (begins_at c.args.turn size o + m) b (omega arith) (let within = begins-within c.args.turn size o (omega arith) in omega arith) i) in
              let all : (line + 1) * size ≤ size * size = mul-le (line + 1) size size size (omega arith) (omega arith) in
              let next : (line + 1) * size ≡ line * size + size = omega arith in
              omega (arith, own, last, before, most, all, next, c.plane_width-width.ensures.fits),
        ),
      ),
    ),
  ),
)

pub lines-preserved : goal.lines-preserved
lines-preserved c = λ m b h i.
    let lines = c.args.lines.now in
    let line = c.lines.line in
    let own = ap (λ ps. count_at ps (c.begin.result + m) b) (line-is lines line c.at.result.now c.at.ensures (omega (arith, c.requires.lines, c.requires.size)))
    ∙ ap (λ n. count_at (line_at lines line) (n + m) b) c.begin.ensures.value in
    let more = sum-more (λ o. count_at (line_at lines o) (begins_at c.args.turn c.args.size o + m) b) line in
    omega (arith, c.add_counts.ensures m b h i, own, more, c.lines.invariant m b h i)
