-- One slot more is swept.
use Rattle.std.proofs.Common.{◌≡◌, ◌≢◌, ℕ, inl, inr, ◌+◌, ◌<◌, ◌≤◌, List, length, get_or, set, sym, subst, ◌∙◌, arith}
use Rattle.std.proofs.lemmas.Bool.{cases_lt}
use Rattle.std.proofs.lemmas.List.{get_or-set_other, get_or-set_same, get_or_default}
use Rattle.scalar_rule.specs.Plan.{Plan}
use Rattle.measured_run.specs.Cells.{IsSweptCell}
use Rattle.measured_run.specs.declared.cell.Cell.{Cell}

pub swept-more : (plan : Plan) (every e first t : ℕ) (old cells : List Cell) (r x : Cell) → t < length cells → length cells ≡ length old
    → IsSweptCell plan every e (first + t) (get_or cells t r) x
    → ((j : ℕ) (d : Cell) → j < t → IsSweptCell plan every e (first + j) (get_or old j d) (get_or cells j d))
    → ((j : ℕ) (d : Cell) → t ≤ j → get_or cells j d ≡ get_or old j d)
    → (j : ℕ) (d : Cell) → j < t + 1 → IsSweptCell plan every e (first + j) (get_or old j d) (get_or (set cells t x) j d)
swept-more plan every e first t old cells r x within sized now done rest j d below = elim (cases_lt j t) [
  | inl less ↦
      let apart : j ≢ t = (λ same. absurd (omega (arith, same, less))) in
      subst (λ y. IsSweptCell plan every e (first + j) (get_or old j d) y) (sym (get_or-set_other cells t j x d apart)) (done j d less)
  | inr last ↦
      let same : t ≡ j = omega (arith, last, below) in
      let here : IsSweptCell plan every e (first + t) (get_or old t d) (get_or (set cells t x) t d) =
      subst (λ y. IsSweptCell plan every e (first + t) (get_or old t d) y) (sym (get_or-set_same cells t x d within))
      (subst (λ y. IsSweptCell plan every e (first + t) y x) (get_or_default cells t r d within ∙ rest t d (omega arith)) now) in
      subst (λ i. IsSweptCell plan every e (first + i) (get_or old i d) (get_or (set cells t x) i d)) same here
]
