-- A line more is doubled.
use Rattle.std.proofs.Common.{inl, inr, ◌≡◌, ◌%◌, ◌<◌, length, length-set, ap, ◌∙◌, arith}
use Rattle.std.proofs.lemmas.Bool.{cases_lt}
use Rattle.plane_sums.specs.Counts.{count_at}
use Rattle.plane_sums.proofs.Projecting.{line-set, line-kept, line-is}
use Rattle.plane_sums.proofs.projections.double_lines.Goals as goal

pub lines-preserved : goal.lines-preserved
lines-preserved c =
    let known = c.lines.invariant in
    let lines = c.lines.lines in
    let at = c.lines.j in
    let new = c.double.new.self in
    let inside : at < length lines = omega (arith, known.long, c.requires.size) in
    record {
      long = length-set lines at new ∙ known.long;
      doubled = λ j k b h l. elim (cases_lt j at) [
        | inl less ↦ ap (λ ps. count_at ps k b) (line-kept lines at j new (λ e. omega (arith, e, less))) ∙ known.doubled j k b less l
        | inr not ↦
            let here : j ≡ at = omega arith in
            rw here (ap (λ ps. count_at ps k b) (line-set lines at new inside) ∙ c.double.ensures k b l
            ∙ ap (λ ps. count_at ps (k % c.args.size) b) (line-is lines at _ c.at_mut.ensures.value inside ∙ known.rest at (omega arith)))
      ];
      rest = λ j h. line-kept lines at j new (λ e. omega (arith, e, h)) ∙ known.rest j (omega arith);
    }
