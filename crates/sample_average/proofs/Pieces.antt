-- A text of pieces, one behind the other.
use Rattle.std.proofs.Common.{arith, ◌≡◌, ℕ, zero, suc, ◌+◌, ◌-◌, ◌<◌, List, [], ◌++◌, ap, sym, ◌∙◌, refl, add-one, append-nil, append_assoc}
use Rattle.sample_average.specs.Averages.{pieces}

pub pieces-none : (f : ℕ → List ℕ) → pieces f 0 ≡ []
unfolding pieces
pieces-none f = refl

pub pieces-more : (f : ℕ → List ℕ) (n : ℕ) → pieces f (n + 1) ≡ pieces f n ++ f n
unfolding pieces
pieces-more f n = ap (pieces f) (add-one n)

pieces-add : (f : ℕ → List ℕ) (n m : ℕ) → pieces f (n + m) ≡ pieces f n ++ pieces (λ k. f (n + k)) m
unfolding pieces
pieces-add f n zero = let e : n + 0 ≡ n = omega arith in ap (pieces f) e ∙ sym (append-nil (pieces f n))
pieces-add f n (suc m) =
    let e : n + suc m ≡ suc (n + m) = omega arith in
    ap (pieces f) e ∙ ap (λ xs. xs ++ f (n + m)) (pieces-add f n m) ∙ append_assoc (pieces f n) (pieces (λ k. f (n + k)) m) (f (n + m))

-- those before one of them, it, and those behind it
pub pieces-at : (f : ℕ → List ℕ) (n all : ℕ) → n < all → pieces f all ≡ (pieces f n ++ f n) ++ pieces (λ k. f (suc n + k)) (all - suc n)
unfolding pieces
pieces-at f n all more =
    let e : suc n + (all - suc n) ≡ all = omega (arith, more) in
    ap (pieces f) (sym e) ∙ pieces-add f (suc n) (all - suc n)
