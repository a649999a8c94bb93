-- The case of a count below seven by its three bits, and the flip of a spin, on truth values.
use Rattle.std.proofs.Common.{◌≡◌, ℕ, ◌+◌, ◌*◌, ◌-◌, ◌≤◌, ◌||◌, ◌&&◌, not, nat_le, Bool, true, false, if◌then◌else◌, refl, arith}
use Rattle.multispin_word.specs.Planes.{one_if, differs}
use Rattle.local_rule.specs.TurnedCounts.{accepted}

-- heat bath: one of seven cases
pub seven : (t : ℕ → Bool) (x y z : Bool) (n : ℕ) → n ≡ one_if x + 2 * one_if y + 4 * one_if z → n ≤ 6
    → (if z then (if y then t 6 else (if x then t 5 else t 4))
    else (if y then (if x then t 3 else t 2) else (if x then t 1 else t 0)))
    ≡ t n
seven t false false false n e h = rw e refl
seven t true false false n e h = rw e refl
seven t false true false n e h = rw e refl
seven t true true false n e h = rw e refl
seven t false false true n e h = rw e refl
seven t true false true n e h = rw e refl
seven t false true true n e h = rw e refl
seven t true true true n e h = absurd (omega arith)

-- Metropolis: a count of at most three, or one of three cases
pub three : (t : ℕ → Bool) (x y z : Bool) (n : ℕ) → n ≡ one_if x + 2 * one_if y + 4 * one_if z → n ≤ 6
    → (not z || (if y then t 2 else (if x then t 1 else t 0))) ≡ (nat_le n 3 || t (n - 4))
three t false false false n e h = rw e refl
three t true false false n e h = rw e refl
three t false true false n e h = rw e refl
three t true true false n e h = rw e refl
three t false false true n e h = rw e refl
three t true false true n e h = rw e refl
three t false true true n e h = rw e refl
three t true true true n e h = absurd (omega arith)

-- s is turned, but kept where c holds and a does not
pub flip : (s c a : Bool) → differs (not s) (c && not a) ≡ (if not c || a then not s else s)
flip true true true = refl
flip true true false = refl
flip true false true = refl
flip true false false = refl
flip false true true = refl
flip false true false = refl
flip false false true = refl
flip false false false = refl

pub differs-true : (b : Bool) → differs b true ≡ not b
differs-true true = refl
differs-true false = refl

differs-false : (b : Bool) → differs b false ≡ b
differs-false true = refl
differs-false false = refl

-- to be equal to a set bit
pub same-true : (b : Bool) → not (differs b true) ≡ b
same-true true = refl
same-true false = refl

-- the low and the high bit of the sum of three bits
abbrev pub low : Bool → Bool → Bool → Bool
low x y z = differs (differs x y) z

abbrev pub high : Bool → Bool → Bool → Bool
high x y z = x && y || differs x y && z

-- which are that sum
pub sum-three : (x y z : Bool) → one_if (low x y z) + 2 * one_if (high x y z) ≡ one_if x + one_if y + one_if z
sum-three true true true = refl
sum-three true true false = refl
sum-three true false true = refl
sum-three true false false = refl
sum-three false true true = refl
sum-three false true false = refl
sum-three false false true = refl
sum-three false false false = refl

-- so the sum of two such numbers has these three bits
two-sums : (f g h k : Bool)
    → one_if (differs f h) + 2 * one_if (differs (differs g k) (f && h)) + 4 * one_if (if differs g k then f && h else g)
    ≡ one_if f + 2 * one_if g + (one_if h + 2 * one_if k)
two-sums true true true true = refl
two-sums true true true false = refl
two-sums true true false true = refl
two-sums true true false false = refl
two-sums true false true true = refl
two-sums true false true false = refl
two-sums true false false true = refl
two-sums true false false false = refl
two-sums false true true true = refl
two-sums false true true false = refl
two-sums false true false true = refl
two-sums false true false false = refl
two-sums false false true true = refl
two-sums false false true false = refl
two-sums false false false true = refl
two-sums false false false false = refl

-- and so has that of six bits
pub six : (u v w x y z : Bool)
    → one_if (differs (low u v w) (low x y z))
    + 2 * one_if (differs (differs (high u v w) (high x y z)) (low u v w && low x y z))
    + 4 * one_if (if differs (high u v w) (high x y z) then low u v w && low x y z else high u v w)
    ≡ one_if u + one_if v + one_if w + one_if x + one_if y + one_if z
six u v w x y z =
    omega (arith, sum-three u v w, sum-three x y z, two-sums (low u v w) (high u v w) (low x y z) (high x y z))

-- of three bits compared with another both bits of the sum are compared with it
sum-equal : (x y z s : Bool)
    → one_if (not (differs (low x y z) s)) + 2 * one_if (not (differs (high x y z) s))
    ≡ one_if (not (differs x s)) + one_if (not (differs y s)) + one_if (not (differs z s))
sum-equal true true true true = refl
sum-equal true true true false = refl
sum-equal true true false true = refl
sum-equal true true false false = refl
sum-equal true false true true = refl
sum-equal true false true false = refl
sum-equal true false false true = refl
sum-equal true false false false = refl
sum-equal false true true true = refl
sum-equal false true true false = refl
sum-equal false true false true = refl
sum-equal false true false false = refl
sum-equal false false true true = refl
sum-equal false false true false = refl
sum-equal false false false true = refl
sum-equal false false false false = refl

-- the sum of two such numbers, with its bits of 2 and 4 turned over
two-equal : (f g h k s : Bool)
    → one_if (differs f h) + 2 * one_if (not (differs (differs g k) (differs f h || differs f s)))
    + 4 * one_if (not (if differs g k then differs f h || differs f s else differs g s))
    ≡ one_if (not (differs f s)) + 2 * one_if (not (differs g s)) + (one_if (not (differs h s)) + 2 * one_if (not (differs k s)))
two-equal true true true true true = refl
two-equal true true true true false = refl
two-equal true true true false true = refl
two-equal true true true false false = refl
two-equal true true false true true = refl
two-equal true true false true false = refl
two-equal true true false false true = refl
two-equal true true false false false = refl
two-equal true false true true true = refl
two-equal true false true true false = refl
two-equal true false true false true = refl
two-equal true false true false false = refl
two-equal true false false true true = refl
two-equal true false false true false = refl
two-equal true false false false true = refl
two-equal true false false false false = refl
two-equal false true true true true = refl
two-equal false true true true false = refl
two-equal false true true false true = refl
two-equal false true true false false = refl
two-equal false true false true true = refl
two-equal false true false true false = refl
two-equal false true false false true = refl
two-equal false true false false false = refl
two-equal false false true true true = refl
two-equal false false true true false = refl
two-equal false false true false true = refl
two-equal false false true false false = refl
two-equal false false false true true = refl
two-equal false false false true false = refl
two-equal false false false false true = refl
two-equal false false false false false = refl

-- and that of six bits compared with another
pub six-equal : (u v w x y z s : Bool)
    → one_if (differs (low u v w) (low x y z))
    + 2 * one_if (not (differs (differs (high u v w) (high x y z)) (differs (low u v w) (low x y z) || differs (low u v w) s)))
    + 4 * one_if (not (if differs (high u v w) (high x y z) then differs (low u v w) (low x y z) || differs (low u v w) s else differs (high u v w) s))
    ≡ one_if (not (differs u s)) + one_if (not (differs v s)) + one_if (not (differs w s)) + one_if (not (differs x s)) + one_if (not (differs y s)) + one_if (not (differs z s))
six-equal u v w x y z s =
    omega (arith, sum-equal u v w s, sum-equal x y z s, two-equal (low u v w) (high u v w) (low x y z) (high x y z) s)

-- what differs from the difference
pick-six : (x y : Bool) → differs x (differs x y) ≡ y
pick-six true true = refl
pick-six true false = refl
pick-six false true = refl
pick-six false false = refl

-- one of three cases, put together by differences
pub accept : (x y p q r : Bool)
    → differs (differs p (x && differs p q)) (differs y true && differs p r) ≡ accepted x y p q r
accept true y p q r = rw (differs-true y, pick-six p q) refl
accept false y p q r = rw (differs-true y, differs-false p) refl

pub turn-if : (s c : Bool) → differs s c ≡ (if c then not s else s)
turn-if true true = refl
turn-if true false = refl
turn-if false true = refl
turn-if false false = refl

-- Metropolis by a count whose bits of 2 and 4 are turned over: the spin is turned where one of two holds
pub turn : (t : ℕ → Bool) (x y z s : Bool) (n : ℕ) → n ≡ one_if x + 2 * one_if (not y) + 4 * one_if (not z) → n ≤ 6
    → differs s (z || accepted x y (t 0) (t 1) (t 2)) ≡ (if nat_le n 3 || t (n - 4) then not s else s)
turn t true true true s n e h = rw e (differs-true s)
turn t true false true s n e h = rw e (differs-true s)
turn t false true true s n e h = rw e (differs-true s)
turn t false false true s n e h = rw e (differs-true s)
turn t false true false s n e h = rw (e, differs-false (t 0)) (turn-if s (t 0))
turn t true true false s n e h = rw (e, differs-false (t 1)) (turn-if s (t 1))
turn t false false false s n e h = rw (e, pick-six (t 0) (t 2)) (turn-if s (t 2))
turn t true false false s n e h = absurd (omega arith)
