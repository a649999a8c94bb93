-- What two sums of three votes decide, case by case.
use Rattle.std.proofs.Common.{◌≡◌, ℕ, ◌+◌, ◌*◌, ◌-◌, ◌≤◌, ◌||◌, ◌&&◌, nat_le, Bool, true, false, if◌then◌else◌, refl, arith}
use Rattle.std.proofs.lemmas.Bool.{lt-leb, le-leb}
use Rattle.multispin_word.specs.Planes.{one_if, differs}

-- a gap that costs n + 1
costly : (t : ℕ → Bool) (p q n : ℕ) → p ≡ q + (n + 1) → t n ≡ (nat_le p q || t (p - q - 1))
costly t p q n e =
    let above : nat_le p q ≡ false = lt-leb p q (omega arith) in
    let index : p - q - 1 ≡ n = omega arith in
    rw (above, index) refl

-- one that is free
free : (t : ℕ → Bool) (p q : ℕ) → p ≤ q → true ≡ (nat_le p q || t (p - q - 1))
free t p q h = let below : nat_le p q ≡ true = le-leb p q h in rw below refl

-- the plane of 2 of the sum of two numbers of three bits, and the carry out of it
abbrev pub twos : Bool → Bool → Bool → Bool → Bool
twos a b x y = differs (differs x y) (a && b)

abbrev pub carried : Bool → Bool → Bool → Bool → Bool
carried a b x y = x && y || differs x y && (a && b)

-- six votes are 6 less what the change costs
pub six-votes : (t : ℕ → Bool) (a b x y u v : Bool) (lost won : ℕ)
    → lost + (one_if a + 2 * one_if x + 4 * one_if u + (one_if b + 2 * one_if y + 4 * one_if v)) ≡ 6 + won
    → (u && v || (u || v) && carried a b x y
    || (if u || v || carried a b x y
    then (twos a b x y || (if differs a b then t 0 else t 1))
    else (if twos a b x y then (if differs a b then t 2 else t 3) else (if differs a b then t 4 else t 5))))
    ≡ (nat_le lost won || t (lost - won - 1))
six-votes t true true true true true true lost won e = free t lost won (omega arith)
six-votes t true true true true true false lost won e = free t lost won (omega arith)
six-votes t true true true true false true lost won e = free t lost won (omega arith)
six-votes t true true true true false false lost won e = free t lost won (omega arith)
six-votes t true true true false true true lost won e = free t lost won (omega arith)
six-votes t true true true false true false lost won e = free t lost won (omega arith)
six-votes t true true true false false true lost won e = free t lost won (omega arith)
six-votes t true true true false false false lost won e = costly t lost won 1 (omega arith)
six-votes t true true false true true true lost won e = free t lost won (omega arith)
six-votes t true true false true true false lost won e = free t lost won (omega arith)
six-votes t true true false true false true lost won e = free t lost won (omega arith)
six-votes t true true false true false false lost won e = costly t lost won 1 (omega arith)
six-votes t true true false false true true lost won e = free t lost won (omega arith)
six-votes t true true false false true false lost won e = free t lost won (omega arith)
six-votes t true true false false false true lost won e = free t lost won (omega arith)
six-votes t true true false false false false lost won e = costly t lost won 3 (omega arith)
six-votes t true false true true true true lost won e = free t lost won (omega arith)
six-votes t true false true true true false lost won e = free t lost won (omega arith)
six-votes t true false true true false true lost won e = free t lost won (omega arith)
six-votes t true false true true false false lost won e = costly t lost won 0 (omega arith)
six-votes t true false true false true true lost won e = free t lost won (omega arith)
six-votes t true false true false true false lost won e = free t lost won (omega arith)
six-votes t true false true false false true lost won e = free t lost won (omega arith)
six-votes t true false true false false false lost won e = costly t lost won 2 (omega arith)
six-votes t true false false true true true lost won e = free t lost won (omega arith)
six-votes t true false false true true false lost won e = free t lost won (omega arith)
six-votes t true false false true false true lost won e = free t lost won (omega arith)
six-votes t true false false true false false lost won e = costly t lost won 2 (omega arith)
six-votes t true false false false true true lost won e = free t lost won (omega arith)
six-votes t true false false false true false lost won e = costly t lost won 0 (omega arith)
six-votes t true false false false false true lost won e = costly t lost won 0 (omega arith)
six-votes t true false false false false false lost won e = costly t lost won 4 (omega arith)
six-votes t false true true true true true lost won e = free t lost won (omega arith)
six-votes t false true true true true false lost won e = free t lost won (omega arith)
six-votes t false true true true false true lost won e = free t lost won (omega arith)
six-votes t false true true true false false lost won e = costly t lost won 0 (omega arith)
six-votes t false true true false true true lost won e = free t lost won (omega arith)
six-votes t false true true false true false lost won e = free t lost won (omega arith)
six-votes t false true true false false true lost won e = free t lost won (omega arith)
six-votes t false true true false false false lost won e = costly t lost won 2 (omega arith)
six-votes t false true false true true true lost won e = free t lost won (omega arith)
six-votes t false true false true true false lost won e = free t lost won (omega arith)
six-votes t false true false true false true lost won e = free t lost won (omega arith)
six-votes t false true false true false false lost won e = costly t lost won 2 (omega arith)
six-votes t false true false false true true lost won e = free t lost won (omega arith)
six-votes t false true false false true false lost won e = costly t lost won 0 (omega arith)
six-votes t false true false false false true lost won e = costly t lost won 0 (omega arith)
six-votes t false true false false false false lost won e = costly t lost won 4 (omega arith)
six-votes t false false true true true true lost won e = free t lost won (omega arith)
six-votes t false false true true true false lost won e = free t lost won (omega arith)
six-votes t false false true true false true lost won e = free t lost won (omega arith)
six-votes t false false true true false false lost won e = costly t lost won 1 (omega arith)
six-votes t false false true false true true lost won e = free t lost won (omega arith)
six-votes t false false true false true false lost won e = free t lost won (omega arith)
six-votes t false false true false false true lost won e = free t lost won (omega arith)
six-votes t false false true false false false lost won e = costly t lost won 3 (omega arith)
six-votes t false false false true true true lost won e = free t lost won (omega arith)
six-votes t false false false true true false lost won e = free t lost won (omega arith)
six-votes t false false false true false true lost won e = free t lost won (omega arith)
six-votes t false false false true false false lost won e = costly t lost won 3 (omega arith)
six-votes t false false false false true true lost won e = free t lost won (omega arith)
six-votes t false false false false true false lost won e = costly t lost won 1 (omega arith)
six-votes t false false false false false true lost won e = costly t lost won 1 (omega arith)
six-votes t false false false false false false lost won e = costly t lost won 5 (omega arith)
