-- The first rows of a table, as many as it may have.
use Rattle.std.proofs.Common.{◌≡◌, ℕ, ◌≤◌, List, [], ◌∷◌, ◌++◌, length, take, map, None, refl, sym, ◌∙◌, arith}
use Rattle.std.proofs.lemmas.Bool.Decides.{nat_tests}
use Rattle.std.proofs.lemmas.List.{take-append-le, take_all, append-nil, length-map}
use Rattle.threshold_table.specs.declared.bounds.Bounds.{Bounds}
use Rattle.threshold_table.specs.TableText.{count_refusal, record_values}

-- a list that is full already
pub full : (n : ℕ) (xs ys zs : List (List ℕ)) → n ≤ length xs → take n (xs ++ ys) ≡ take n (xs ++ zs)
full n xs ys zs le = take-append-le n xs ys le ∙ sym (take-append-le n xs zs le)

-- a number of records that is not refused
pub few : (height : Bounds) (n : ℕ) → None ≡ count_refusal height n → n ≤ height.most
few height n none = grind (arith, nat_tests)

-- no record is left
pub all-rows : (n : ℕ) (rows lines rest : List (List ℕ)) → length rows ≤ n → length lines ≤ n → rest ≡ []
    → take n (rows ++ map record_values rest) ≡ take n (map record_values lines) → map record_values lines ≡ rows
all-rows n rows lines rest short few none so_far =
    let right : take n (map record_values lines) ≡ map record_values lines = take_all n _ (rw length-map few) in
    let left : take n (rows ++ map record_values rest) ≡ rows = rw (none, append-nil) (take_all n _ short) in
    sym right ∙ (sym so_far ∙ left)

-- one record more
pub kept-more : (n : ℕ) (rows : List (List ℕ)) (row line : List ℕ) (rest after total : List (List ℕ)) → rest ≡ line ∷ after → row ≡ record_values line
    → take n (rows ++ map record_values rest) ≡ total → take n (rows ++ row ∷ map record_values after) ≡ total
kept-more n rows row line rest after total cut value so_far =
    let back : take n (rows ++ map record_values rest) ≡ take n (rows ++ record_values line ∷ map record_values after) = rw cut refl in
    rw value (sym back ∙ so_far)
