-- Words turned by a number of places: those from there on, and behind them the first.
use Rattle.std.proofs.Common.{inl, inr, ◌≡◌, ℕ, ◌+◌, ◌-◌, ◌*◌, ◌%◌, ◌<◌, ◌≤◌, List, ◌++◌, length, take, drop, get_or, ap, sym, ◌∙◌, arith}
use Rattle.std.proofs.lemmas.Bool.{cases_lt}
use Rattle.std.proofs.lemmas.List.{get_or_append_left, get_or-append_right, get_or-drop, get_or-take, length-drop}
use Rattle.std.proofs.lemmas.Nat.{mod-mul-add}
use Rattle.std.proofs.Math.Nat.{mod-eq_of_lt}

pub turned-at : (words : List ℕ) (step k : ℕ) → step ≤ length words → k < length words
    → get_or (drop step words ++ take step words) k 0 ≡ get_or words ((k + step) % length words) 0
turned-at words step k within below =
    let long = length-drop step words in
    elim (cases_lt k (length words - step)) [
      | inl front ↦
          let place : step + k ≡ k + step = omega arith in
          let inside : k + step < length words = omega arith in
          get_or_append_left (drop step words) (take step words) 0 k (omega arith) ∙ get_or-drop step words k 0
          ∙ ap (λ j. get_or words j 0) (place ∙ sym (mod-eq_of_lt inside))
      | inr back ↦
          let j = k - (length words - step) in
          let first : j < step = omega arith in
          let turned : 1 * length words + j ≡ k + step = omega arith in
          let below_all : j < length words = omega arith in
          get_or-append_right (drop step words) (take step words) (length words - step) k 0 long back ∙ get_or-take step words j 0 first
          ∙ ap (λ i. get_or words i 0) (sym (rw turned at (mod-mul-add 1 (length words) j below_all)))
    ]
