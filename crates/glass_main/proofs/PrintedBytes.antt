-- Bytes as they are printed, one after the other.
use Rattle.std.proofs.Common.{◌≡◌, ℕ, ◌+◌, ◌<◌, List, [], ◌∷◌, ◌++◌, length, get_or, map, take, drop, sym, ap, ◌∙◌}
use Rattle.std.proofs.lemmas.List.{take_more, map-append, take-append-drop}
use Rattle.glass_main.specs.Lines.{printable}

pub printed-more : (bytes : List ℕ) (k : ℕ) → k < length bytes → map printable (take (k + 1) bytes) ≡ map printable (take k bytes) ++ printable (get_or bytes k 0) ∷ []
printed-more bytes k within = rw (take_more bytes k 0 within) (map-append printable (take k bytes) (get_or bytes k 0 ∷ []))

pub printed-rest : (bytes : List ℕ) (k : ℕ) → map printable (take k bytes) ++ map printable (drop k bytes) ≡ map printable bytes
printed-rest bytes k = sym (map-append printable (take k bytes) (drop k bytes)) ∙ ap (map printable) (take-append-drop k bytes)
