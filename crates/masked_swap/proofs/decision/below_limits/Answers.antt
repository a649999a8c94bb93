-- Sample b is set where its draw is below its limit, and the others are as they were.
use Rattle.std.proofs.Common.{inl, inr, ◌≡◌, refl, ◌∙◌, arith}
use Rattle.std.proofs.lemmas.Bool.{cases_lt, eq-eqb, ne_eqb}
use Rattle.masked_swap.proofs.Deciding.{added-here, added-elsewhere}
use Rattle.masked_swap.proofs.decision.below_limits.Goals as goal

pub samples-preserved : goal.samples-preserved
samples-preserved c =
    let b = c.samples.b in
    let mask = c.samples.mask in
    let all = c.below.result in
    let one = c.only.result in
    let known = c.samples.invariant in
    record {
      done = λ k h. elim (cases_lt k b) [
        | inl less ↦ added-elsewhere mask all one k _ (known.done k less)
            (c.only.ensures k ∙ ne_eqb k b (λ e. omega (arith, e, less)))
        | inr more ↦
            let last : b ≡ k = omega arith in
            rw (← last) (added-here mask all one b _ (known.rest b (omega arith)) (c.below.ensures b (omega arith))
            (c.only.ensures b ∙ eq-eqb b b refl))
      ];
      rest = λ k h. added-elsewhere mask all one k _ (known.rest k (omega arith))
          (c.only.ensures k ∙ ne_eqb k b (λ e. omega (arith, e, h)));
    }
