-- Two neighbouring items of a list, written through its two parts.
use Rattle.std.proofs.Common.{◌≡◌, ℕ, ◌+◌, ◌-◌, List, ◌++◌, length, set, ap, ◌∙◌, arith}
use Rattle.std.proofs.lemmas.List.{set-append_left, set-append_right, length-set}

pub split-set : {A : Type 0} (xs front back : List A) (k : ℕ) (v w : A) → xs ≡ front ++ back → length front ≡ k + 1 → set (set xs k v) (k + 1) w ≡ set front k v ++ set back 0 w
split-set xs front back k v w split sized =
    let first : k + 1 - (k + 1) ≡ 0 = omega arith in
    ap (λ zs. set (set zs k v) (k + 1) w) split
    ∙ ap (λ zs. set zs (k + 1) w) (set-append_left front back k v (omega arith))
    ∙ set-append_right (set front k v) back (k + 1) (k + 1) w (length-set front k v ∙ sized) (omega arith)
    ∙ ap (λ j. set front k v ++ set back j w) first
