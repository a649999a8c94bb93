-- The first piece of a list that is cut, and the rest.
use Rattle.std.proofs.Common.{◌≡◌, ℕ, ◌+◌, ◌-◌, ◌<◌, ◌≤◌, Bool, true, List, [], ◌∷◌, length, take, drop, refl, sym, arith}
use Rattle.std.specs.List.{slice_split, position_or_len, count_by}
use Rattle.std.proofs.lemmas.List.{take_rest, nil_from_length}
use Rattle.std.specs.Prelude.{◌==◌}
use Rattle.std.proofs.lemmas.Bool.{eqb-true}
use Rattle.std.proofs.lemmas.List.Splits.{slice_split_first, slice_split_none, length-slice_split}
use Rattle.std.proofs.lemmas.List.Sums.{fails_before_first}
use Rattle.threshold_table.specs.TableText.{records, fields, is_comma, is_line_end}
use Rattle.threshold_table.specs.Pieces.{with_line}

cut-first : (p : ℕ → Bool) (xs : List ℕ) (n : ℕ) → n ≡ position_or_len p xs → n < length xs → slice_split p xs ≡ take n xs ∷ slice_split p (take (length xs - (n + 1)) (drop (n + 1) xs))
cut-first p xs n e lt = let le : position_or_len p xs < length xs = omega arith in rw (take_rest xs (n + 1), e) (slice_split_first p xs 0 le)

cut-none : (p : ℕ → Bool) (xs : List ℕ) → length xs ≤ position_or_len p xs → slice_split p xs ≡ xs ∷ []
cut-none p xs le = slice_split_none p xs (λ k d lt. fails_before_first p xs k d (omega arith))

pub fields-first : (line : List ℕ) (n : ℕ) → n ≡ position_or_len is_comma line → n < length line → fields line ≡ take n line ∷ fields (take (length line - (n + 1)) (drop (n + 1) line))
unfolding fields
fields-first line n e lt = cut-first is_comma line n e lt

pub fields-none : (line : List ℕ) (n : ℕ) → n ≡ position_or_len is_comma line → length line ≤ n → fields line ≡ line ∷ []
unfolding fields
fields-none line n e le = cut-none is_comma line (omega arith)

pub fields-length : (line : List ℕ) → length (fields line) ≡ count_by is_comma line + 1
unfolding fields
fields-length line = length-slice_split is_comma line

pub records-first : (text : List ℕ) (n : ℕ) → n ≡ position_or_len is_line_end text → n < length text → records text ≡ with_line (take n text) (records (take (length text - (n + 1)) (drop (n + 1) text)))
unfolding records
records-first text n e lt = rw (cut-first is_line_end text n e lt) refl

pub records-none : (text : List ℕ) (n : ℕ) → n ≡ position_or_len is_line_end text → length text ≤ n → records text ≡ with_line text (records [])
unfolding records
records-none text n e le = rw (cut-none is_line_end text (omega arith)) refl

pub records-end : (rest : List ℕ) → true ≡ (length rest == 0) → records rest ≡ []
unfolding records
records-end rest e = rw (nil_from_length rest (eqb-true _ _ (sym e))) refl
