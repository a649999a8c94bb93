-- The rows from a place on: which row is where, and what a new row in that place makes of them.
use Rattle.std.proofs.Common.{◌≡◌, ℕ, ◌+◌, ◌-◌, ◌%◌, ◌<◌, ◌≤◌, List, [], ◌∷◌, ◌++◌, length, get_or, take, drop, slice_set, ap, refl, sym, ◌∙◌, arith, length-append, length-drop, length-take-le, get_or-drop, lit<, inl, inr}
use Rattle.std.proofs.lemmas.List.{take_all, drop_all, append-nil, append_assoc, drop-drop, drop-append-le, drop-set-lt, take_more_set, get_or_append_left, get_or-append_right, get_or-take}
use Rattle.std.proofs.lemmas.List.Elements.{All-append, All-drop, All-take}
use Rattle.std.proofs.lemmas.Bool.{cases_lt}
use Rattle.spin_model.specs.Words.{word_sum}
use Rattle.spin_model.specs.Steps.{table}
use Rattle.spin_model.specs.Stream.{stream_word}
use Rattle.pr_generator.specs.Rows.{state_of, from_row, AreRows}
use Rattle.pr_generator.proofs.RowTurns.{sums-are_words}

pub from_row-zero : (rows : List (List ℕ)) → from_row 0 rows ≡ rows
from_row-zero rows = append-nil rows

pub from_row-all : (rows : List (List ℕ)) → length rows ≡ 8 → from_row 8 rows ≡ rows
from_row-all rows sized = ap (λ v. v ++ take 8 rows) (drop_all 8 rows (omega arith)) ∙ take_all 8 rows (omega arith)

length-from_row : (rows : List (List ℕ)) (place : ℕ) → length rows ≡ 8 → place ≤ 8 → length (from_row place rows) ≡ 8
length-from_row rows place sized within =
    let taken = length-take-le place rows (omega arith) in
    simp (length-append, length-drop) (omega arith)

pub from_row-are_rows : (rows : List (List ℕ)) (place : ℕ) → AreRows rows → place ≤ 8 → AreRows (from_row place rows)
from_row-are_rows rows place are within =
    record {
      sized = length-from_row rows place are.sized within;
      eight = All-append (λ row. length row ≡ 8) (drop place rows) (take place rows) (All-drop (λ row. length row ≡ 8) place rows are.eight) (All-take (λ row. length row ≡ 8) place rows are.eight);
    }

-- which row is where
get_or-from_row : (rows : List (List ℕ)) (place q : ℕ) → length rows ≡ 8 → place ≤ 8 → q < 8 → get_or (from_row place rows) q [] ≡ get_or rows ((place + q) % 8) []
get_or-from_row rows place q sized within below =
    let rest = length-drop place rows in
    elim (cases_lt (place + q) 8) [
      | inl before ↦
          let index : place + q ≡ (place + q) % 8 = omega (arith, before) in
          get_or_append_left (drop place rows) (take place rows) [] q (omega (arith, before)) ∙ get_or-drop place rows q [] ∙ ap (λ i. get_or rows i []) index
      | inr behind ↦
          let index : q - (8 - place) ≡ (place + q) % 8 = omega (arith, behind) in
          get_or-append_right (drop place rows) (take place rows) (8 - place) q [] (omega arith) (omega (arith, behind))
          ∙ get_or-take place rows (q - (8 - place)) [] (omega (arith, behind))
          ∙ ap (λ i. get_or rows i []) index
    ]

-- a new row in the place of the oldest one
pub from_row-set : (rows : List (List ℕ)) (place : ℕ) (new : List ℕ) → place < length rows → from_row (place + 1) (slice_set rows place new) ≡ drop 1 (from_row place rows) ++ new ∷ []
from_row-set rows place new within =
    let rest = length-drop place rows in
    let kept : drop 1 (from_row place rows) ≡ drop (place + 1) rows ++ take place rows =
    drop-append-le 1 (drop place rows) (take place rows) (omega arith) ∙ ap (λ v. v ++ take place rows) (drop-drop 1 place rows) in
    ap (λ v. v ++ take (place + 1) (slice_set rows place new)) (drop-set-lt (place + 1) rows place new (omega arith))
    ∙ ap (λ v. drop (place + 1) rows ++ v) (take_more_set rows place new within)
    ∙ sym (append_assoc (drop (place + 1) rows) (take place rows) (new ∷ []))
    ∙ ap (λ v. v ++ new ∷ []) (sym kept)

-- the eight sums of a turn at a place
pub sums-at : (rows : List (List ℕ)) (place : ℕ) (near far behind sums : List ℕ) → AreRows rows → place < 8
    → near ≡ get_or rows ((place + 5) % 8) [] → far ≡ get_or (from_row place rows) 1 [] → behind ≡ get_or rows ((place + 2) % 8) []
    → length sums ≡ 8 → ((k : ℕ) → k < 8 → get_or sums k 0 ≡ word_sum (get_or near k 0) (get_or (far ++ behind) (1 + k) 0))
    → sums ≡ table (λ k. stream_word (state_of (from_row place rows)) (61 + k)) 8
sums-at rows place near far behind sums are within at_five at_one at_two sized each =
    let five = at_five ∙ sym (get_or-from_row rows place 5 are.sized (omega arith) (lit< tt)) in
    let two = at_two ∙ sym (get_or-from_row rows place 2 are.sized (omega arith) (lit< tt)) in
    sums-are_words (from_row place rows) sums (from_row-are_rows rows place are (omega arith)) sized (λ k below. each k below ∙ rw (five, at_one, two) refl)
