-- The satisfied bonds of a site are those of its aligned neighbours where its spin is +1, and the others where it is -1.
use Rattle.std.proofs.Common.{◌≡◌, ℕ, ◌+◌, Bool, true, false, cond, List, [], ◌∷◌, length, suc, refl, sym, ap, ◌∙◌, arith}
use Rattle.std.specs.List.{count_by}
use Rattle.std.proofs.lemmas.List.Sums.{sum_by-cons}
use Rattle.spin_model.specs.Couplings.{Bonds}
use Rattle.scalar_rule.specs.Neighbours.{spin, agree, pull, neighbours, aligned, satisfied}

pub agree-true : (a : Bool) → agree a true ≡ a
agree-true true = refl
agree-true false = refl

agree-down : (a : Bool) → cond (agree a false) 1 0 + cond a 1 0 ≡ 1
agree-down true = refl
agree-down false = refl

count_by-up : {X : Type 0} (p : X → Bool) (xs : List X) → count_by (λ x. agree (p x) true) xs ≡ count_by p xs
count_by-up p [] = refl
count_by-up {X} p (x ∷ xs) =
    let q : X → Bool = λ y. agree (p y) true in
    sum_by-cons (λ y. cond (q y) 1 0) x xs
    ∙ ap (λ a. cond a 1 0 + count_by q xs) (agree-true (p x)) ∙ ap (λ n. cond (p x) 1 0 + n) (count_by-up p xs)
    ∙ sym (sum_by-cons (λ y. cond (p y) 1 0) x xs)

count_by-down : {X : Type 0} (p : X → Bool) (xs : List X) → count_by (λ x. agree (p x) false) xs + count_by p xs ≡ length xs
count_by-down p [] = refl
count_by-down {X} p (x ∷ xs) =
    let one = agree-down (p x) in
    let first = sum_by-cons (λ y. cond (agree (p y) false) 1 0) x xs in
    let second = sum_by-cons (λ y. cond (p y) 1 0) x xs in
    let rest = count_by-down p xs in
    let sized : length (x ∷ xs) ≡ suc (length xs) = refl in
    omega arith

pub satisfied-up : (l : ℕ) (bonds : Bonds) (spins : List Bool) (i : ℕ) → spin spins i ≡ true → satisfied l bonds spins i ≡ aligned l bonds spins i
unfolding aligned satisfied
satisfied-up l bonds spins i up =
    ap (λ s. count_by (λ n. agree (pull bonds spins n) s) (neighbours l i)) up ∙ count_by-up (pull bonds spins) (neighbours l i)

pub satisfied-down : (l : ℕ) (bonds : Bonds) (spins : List Bool) (i : ℕ) → spin spins i ≡ false → satisfied l bonds spins i + aligned l bonds spins i ≡ 6
unfolding aligned satisfied
satisfied-down l bonds spins i down =
    ap (λ s. count_by (λ n. agree (pull bonds spins n) s) (neighbours l i) + count_by (pull bonds spins) (neighbours l i)) down ∙ count_by-down (pull bonds spins) (neighbours l i)
