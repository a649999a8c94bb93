-- Slots that follow each other, in two parts.
use Rattle.std.specs.Prelude.{All}
use Rattle.std.proofs.Common.{◌≡◌, ℕ, inl, inr, ◌+◌, ◌-◌, List, ◌++◌, length, length-append, get_or, ap, ap₂, sym, subst, ◌∙◌, arith}
use Rattle.std.proofs.lemmas.Bool.{cases_lt}
use Rattle.std.proofs.lemmas.List.{get_or_append_left, get_or-append-add}
use Rattle.scalar_rule.specs.Plan.{Plan}
use Rattle.measured_run.specs.Cells.{AreSwept, IsSweptCell}
use Rattle.measured_run.specs.declared.cell.Cell.{Cell}

pub swept-append : (plan : Plan) (every e first : ℕ) (front back front_after back_after : List Cell) → AreSwept plan every e first front front_after
    → AreSwept plan every e (first + length front) back back_after → AreSwept plan every e first (front ++ back) (front_after ++ back_after)
swept-append plan every e first front back front_after back_after one two =
    let n = length front in
    let long = length-append front back in
    let S : ℕ → Cell → Cell → Type 0 = λ t x y. IsSweptCell plan every e t x y in
    record {
      sized = length-append front_after back_after ∙ ap₂ (λ (a b : ℕ). a + b) one.sized two.sized ∙ sym long;
      each = λ t d h. elim (cases_lt t n) [
        | inl less ↦
            subst (λ y. S (first + t) (get_or (front ++ back) t d) y) (sym (get_or_append_left front_after back_after d t (omega (arith, less, one.sized))))
            (subst (λ x. S (first + t) x (get_or front_after t d)) (sym (get_or_append_left front back d t less)) (one.each t d less))
        | inr more ↦
            let k = t - n in
            let place : n + k ≡ t = omega (arith, more) in
            let number : first + n + k ≡ first + t = omega (arith, more) in
            let there : length front_after + k ≡ t = omega (arith, one.sized, place) in
            let was : get_or back k d ≡ get_or (front ++ back) t d = sym (get_or-append-add front back k d) ∙ ap (λ i. get_or (front ++ back) i d) place in
            let now : get_or back_after k d ≡ get_or (front_after ++ back_after) t d =
            sym (get_or-append-add front_after back_after k d) ∙ ap (λ i. get_or (front_after ++ back_after) i d) there in
            subst (λ y. S (first + t) (get_or (front ++ back) t d) y) now
            (subst (λ x. S (first + t) x (get_or back_after k d)) was
            (subst (λ i. S i (get_or back k d) (get_or back_after k d)) number (two.each k d (omega (arith, h, long, more)))))
      ];
    }

pub front-can : (P : Cell → Type 0) (front back : List Cell) → All P (front ++ back) → All P front
front-can P front back all = λ t d h.
    subst P (get_or_append_left front back d t h) (all t d (omega (arith, h, length-append front back)))

pub back-can : (P : Cell → Type 0) (front back : List Cell) → All P (front ++ back) → All P back
back-can P front back all = λ t d h.
    subst P (get_or-append-add front back t d) (all (length front + t) d (omega (arith, h, length-append front back)))
