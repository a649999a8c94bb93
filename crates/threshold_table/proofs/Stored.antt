-- One more value at the front of a list.
use Rattle.std.proofs.Common.{◌≡◌, ℕ, ◌+◌, ◌<◌, List, [], ◌∷◌, ◌++◌, length, get_or, take, drop, set, map, refl, sym, ◌∙◌, append_assoc, arith}
use Rattle.std.proofs.lemmas.List.{drop-set-lt, take_more, take_more_set}
use Rattle.std.proofs.lemmas.Grind.{drop_more_same}

pub stored : (f : List ℕ → ℕ) (out : List ℕ) (k v : ℕ) (x : List ℕ) (xs ys : List (List ℕ)) (total : List ℕ)
    → k < length out → ys ≡ x ∷ xs → v ≡ f x → take k out ++ map f ys ≡ total → take (k + 1) (set out k v) ++ map f xs ≡ total
stored f out k v x xs ys total lt cut is so_far =
    let front : take (k + 1) (set out k v) ≡ take k out ++ v ∷ [] = take_more_set out k v lt in
    let back : take k out ++ map f ys ≡ take k out ++ (f x ∷ map f xs) = rw cut refl in
    rw (front, append_assoc, is) (sym back ∙ so_far)

pub kept : (out old : List ℕ) (k v : ℕ) → drop k out ≡ drop k old → drop (k + 1) (set out k v) ≡ drop (k + 1) old
kept out old k v e = drop-set-lt (k + 1) out k v (omega arith) ∙ drop_more_same out old k e

-- one item more of a list that is copied
pub copied : {X : Type 0} (xs own : List X) (x : X) (i : ℕ) (d : X) → i < length xs → x ≡ get_or xs i d → own ≡ take i xs → own ++ x ∷ [] ≡ take (i + 1) xs
copied xs own x i d lt same so_far = rw (so_far, same) (sym (take_more xs i d lt))
