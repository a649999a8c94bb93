-- A path, split behind its last slash.
use Rattle.std.proofs.Common.{◌≡◌, ℕ, ◌+◌, ◌<◌, List, [], ◌∷◌, ◌++◌, length, take, drop, get_or, refl, sym, ap, ◌∙◌, inl, inr, arith, take-append-drop, length-drop}
use Rattle.std.proofs.lemmas.List.{take_more, get_or-drop}
use Rattle.glass_edges.specs.Saves.{IsSplitPath}

pub split-none : (path : List ℕ) → ((i : ℕ) → i < length path → ¬ (get_or path i 0 ≡ 47)) → IsSplitPath path [] path
split-none path none = record { parts = refl; ended = inl refl; single = none }

-- behind the slash at k, which is the last
pub split-last : (path : List ℕ) (k : ℕ) → k < length path → get_or path k 0 ≡ 47 → ((i : ℕ) → k < i → i < length path → ¬ (get_or path i 0 ≡ 47))
    → IsSplitPath path (take (k + 1) path) (drop (k + 1) path)
split-last path k within slash later = record {
  parts = sym (take-append-drop (k + 1) path);
  ended = inr (take k path, take_more path k 0 within ∙ ap (λ (b : ℕ). take k path ++ b ∷ []) slash);
  single = λ i below same.
      let long : k + 1 + i < length path = omega (arith, length-drop (k + 1) path, below) in
      later (k + 1 + i) (omega arith) long (sym (get_or-drop (k + 1) path i 0) ∙ same);
}
