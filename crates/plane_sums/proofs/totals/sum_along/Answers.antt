-- The sum of each line stands at its place.
use Rattle.std.proofs.Common.{inl, inr, ◌≡◌, ◌<◌, length, ap, ◌∙◌, arith}
use Rattle.std.proofs.lemmas.Bool.{cases_lt, ne_eqb}
use Rattle.scalar_rule.specs.Positions.{sum_below}
use Rattle.plane_sums.specs.Counts.{count_at}
use Rattle.plane_sums.proofs.Projecting.{line-is}
use Rattle.plane_sums.proofs.totals.sum_along.Goals as goal

pub sum_of_line-requires-clause-small : goal.sum_of_line-requires-clause-small
sum_of_line-requires-clause-small c = λ k b h i.
    let own = ap (λ ps. count_at ps k b) (line-is c.args.lines.now c.lines.line c.at.result.now c.at.ensures (omega (arith, c.requires.lines, c.requires.size))) in
    omega (arith, own, c.requires.small c.lines.line k b (omega arith) (omega arith) i)

pub lines-preserved : goal.lines-preserved
lines-preserved c = λ m b h i. elim (cases_lt m c.lines.line) [
  | inl less ↦ c.put.ensures.others m b (ne_eqb m c.lines.line (λ e. omega (arith, e))) ∙ c.lines.invariant m b less i
  | inr not ↦
      let here : m ≡ c.lines.line = omega arith in
      let inside : c.lines.line < length c.args.lines.now = omega (arith, c.requires.lines, c.requires.size) in
      rw here (c.put.ensures.own b ∙ c.sum_of_line.ensures b i
      ∙ ap (λ ps. sum_below (λ k. count_at ps k b) c.args.size) (line-is c.args.lines.now c.lines.line c.at.result.now c.at.ensures inside))
]
