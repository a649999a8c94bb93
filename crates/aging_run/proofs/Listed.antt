-- Lists joined end to end, one for each item of a list.
use Rattle.std.proofs.Common.{◌≡◌, ℕ, ◌+◌, ◌<◌, List, [], ◌∷◌, ◌++◌, length, take, drop, get_or, flat_map, ap, sym, ◌∙◌, append-nil}
use Rattle.std.proofs.lemmas.Grind.{flat_map-append}
use Rattle.std.proofs.lemmas.List.{take_more, take-append-drop}
use Rattle.std.proofs.lemmas.List.Concat.{flat_map-cons}

pub listed-more : {A : Type 0} (item : ℕ → List A) (xs : List ℕ) (k : ℕ) → k < length xs → flat_map item (take (k + 1) xs) ≡ flat_map item (take k xs) ++ item (get_or xs k 0)
listed-more item xs k below =
    ap (flat_map item) (take_more xs k 0 below)
    ∙ flat_map-append item (take k xs) (get_or xs k 0 ∷ [])
    ∙ ap (λ v. flat_map item (take k xs) ++ v) (flat_map-cons item (get_or xs k 0) [] ∙ append-nil (item (get_or xs k 0)))

-- what is before item k, at it and behind it
pub listed-at : {A : Type 0} (item : ℕ → List A) (xs : List ℕ) (k : ℕ) → k < length xs
    → flat_map item xs ≡ (flat_map item (take k xs) ++ item (get_or xs k 0)) ++ flat_map item (drop (k + 1) xs)
listed-at item xs k below =
    ap (flat_map item) (sym (take-append-drop (k + 1) xs))
    ∙ flat_map-append item (take (k + 1) xs) (drop (k + 1) xs)
    ∙ ap (λ u. u ++ flat_map item (drop (k + 1) xs)) (listed-more item xs k below)
