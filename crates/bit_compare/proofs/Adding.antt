-- Adding and taking away plane by plane, at one sample.
use Rattle.std.proofs.Common.{◌≡◌, ℕ, zero, suc, ◌+◌, ◌-◌, ◌*◌, ◌^◌, ◌%◌, ◌<◌, ◌≤◌, ◌==◌, ◌&&◌, ◌||◌, not, nat_lt, if◌then◌else◌, Bool, true, false, List, [], ◌∷◌, length, set, get_or, refl, sym, ap, ◌∙◌, arith, bit_xor, bit_and, bit_or, mul-zero, add-zero, nat_le, inl, inr}
use Rattle.std.proofs.lemmas.Nat.Bits.{bit_at-lt, bit_at-zero}
use Rattle.std.proofs.lemmas.Bool.{cases_lt, lt-ltb, le-ltb, lt-leb, le-leb, ne_eqb}
use Rattle.std.proofs.lemmas.Bool.Decides.{nat_tests}
use Rattle.std.proofs.lemmas.List.{get_or_past}
use Rattle.std.proofs.Math.Bool.{and-true, and-false, or-true, or-false}
use Rattle.std.proofs.Math.Nat.{mod-eq_of_lt, add-mod_right}
use Rattle.std.specs.Int.{bit_at, bit_not, w64}
use Rattle.multispin_word.specs.Planes.{is_set, one_if, differs, first, number}
use Rattle.multispin_word.proofs.Bits.{one_if-is_set, is_set-and, is_set-or, is_set-xor, is_set-not}
use Rattle.multispin_word.proofs.Numbers.{first-more, first-set, first-lt, power-more}

-- the full adder on truth values
added : (x y c : Bool)
    → one_if (differs (differs x y) c) + 2 * one_if ((x && y) || (differs x y && c))
    ≡ one_if x + one_if y + one_if c
added true true true = refl
added true true false = refl
added true false true = refl
added true false false = refl
added false true true = refl
added false true false = refl
added false false true = refl
added false false false = refl

-- the full subtractor on truth values
taken : (x y c : Bool)
    → one_if x + 2 * one_if ((not x && y) || ((not x || y) && c))
    ≡ one_if (differs (differs x y) c) + one_if y + one_if c
taken true true true = refl
taken true true false = refl
taken true false true = refl
taken true false false = refl
taken false true true = refl
taken false true false = refl
taken false false true = refl
taken false false false = refl

-- a bit that a mask has and a word lacks, on truth values
lacked : (x m : Bool) → one_if (not x && m) ≡ (if m then 1 - one_if x else 0)
lacked true true = refl
lacked true false = refl
lacked false true = refl
lacked false false = refl

-- the full adder at one sample
pub full-adder : (x y c k : ℕ)
    → bit_at (bit_xor (bit_xor x y) c) k + 2 * bit_at (bit_or (bit_and x y) (bit_and (bit_xor x y) c)) k
    ≡ bit_at x k + bit_at y k + bit_at c k
full-adder x y c k =
    let low = bit_xor (bit_xor x y) c in
    let high = bit_or (bit_and x y) (bit_and (bit_xor x y) c) in
    rw (
      ← one_if-is_set low k,
      ← one_if-is_set high k,
      ← one_if-is_set x k,
      ← one_if-is_set y k,
      ← one_if-is_set c k,
      is_set-xor (bit_xor x y) c k,
      is_set-or (bit_and x y) (bit_and (bit_xor x y) c) k,
      is_set-and x y k,
      is_set-and (bit_xor x y) c k,
      is_set-xor x y k,
    )
    (added (is_set x k) (is_set y k) (is_set c k))

-- the full subtractor at one sample
pub full-subtractor : (x y c k : ℕ) → x < 2 ^ 64 → k < 64
    → bit_at x k + 2 * bit_at (bit_or (bit_and (bit_not w64 x) y) (bit_and (bit_or (bit_not w64 x) y) c)) k
    ≡ bit_at (bit_xor (bit_xor x y) c) k + bit_at y k + bit_at c k
full-subtractor x y c k h l =
    let low = bit_xor (bit_xor x y) c in
    let n = bit_not w64 x in
    let high = bit_or (bit_and n y) (bit_and (bit_or n y) c) in
    rw (
      ← one_if-is_set low k,
      ← one_if-is_set high k,
      ← one_if-is_set x k,
      ← one_if-is_set y k,
      ← one_if-is_set c k,
      is_set-xor (bit_xor x y) c k,
      is_set-or (bit_and n y) (bit_and (bit_or n y) c) k,
      is_set-and n y k,
      is_set-and (bit_or n y) c k,
      is_set-or n y k,
      is_set-not x k h l,
      is_set-xor x y k,
    )
    (taken (is_set x k) (is_set y k) (is_set c k))

-- One plane more: p is the plane's worth, the first fact is that of the planes below with their
-- carry c, the second that of the plane with its carry d. It serves a sum, and a difference with
-- the borrow as the carry.
pub ripple : (p s c x y e t d u v : ℕ) → s + p * c ≡ x + y + e → t + 2 * d ≡ u + v + c
    → (s + p * t) + (2 * p) * d ≡ (x + p * u) + (y + p * v) + e
ripple p s c x y e t d u v below adder =
    let scaled : p * (t + 2 * d) ≡ p * (u + v + c) = ap (λ n. p * n) adder in
    omega arith

-- a plane more of the sum r of a, b and the bit e
pub sum-more : (r a b : List ℕ) (i x carry next e k : ℕ) → i < length r
    → first r i k + 2 ^ i * bit_at carry k ≡ first a i k + first b i k + e
    → bit_at x k + 2 * bit_at next k ≡ bit_at (get_or a i 0) k + bit_at (get_or b i 0) k + bit_at carry k
    → first (set r i x) (i + 1) k + 2 ^ (i + 1) * bit_at next k ≡ first a (i + 1) k + first b (i + 1) k + e
sum-more r a b i x carry next e k h below adder =
    rw (first-set r i x k h, first-more a i k, first-more b i k, power-more i)
    (ripple (2 ^ i) _ _ _ _ e _ _ _ _ below adder)

-- a plane more of the difference r of a and b
pub rest-more : (r a b : List ℕ) (i x borrow next k : ℕ) → i < length r
    → first a i k + 2 ^ i * bit_at borrow k ≡ first r i k + first b i k
    → bit_at (get_or a i 0) k + 2 * bit_at next k ≡ bit_at x k + bit_at (get_or b i 0) k + bit_at borrow k
    → first a (i + 1) k + 2 ^ (i + 1) * bit_at next k ≡ first (set r i x) (i + 1) k + first b (i + 1) k
rest-more r a b i x borrow next k h below adder =
    let below-0 : first a i k + 2 ^ i * bit_at borrow k ≡ first r i k + first b i k + 0 = omega arith in
    let step = ripple (2 ^ i) _ _ _ _ 0 _ _ _ _ below-0 adder in
    rw (first-set r i x k h, first-more a i k, first-more b i k, power-more i) (omega (arith, step))

-- a sum that does not reach p has no carry
pub no-carry : (n p c m : ℕ) → c < 2 → n + p * c ≡ m → m < p → n ≡ m
no-carry n p zero m h e l = omega arith
no-carry n p (suc zero) m h e l = absurd (omega arith)
no-carry n p (suc (suc c)) m h e l = absurd (omega arith)

-- there is a borrow exactly where a is less than b
pub borrow-test : (a b d p c : ℕ) → c < 2 → a + p * c ≡ d + b → d < p → (c == 1) ≡ nat_lt a b
borrow-test a b d p zero h e l = sym (le-ltb a b (omega arith))
borrow-test a b d p (suc zero) h e l = sym (lt-ltb a b (omega arith))
borrow-test a b d p (suc (suc c)) h e l = absurd (omega arith)

-- the difference without its borrow is modulo p
pub taken-mod : (a b d p c : ℕ) → c < 2 → a + p * c ≡ d + b → d < p → b < p → d ≡ (a + p - b) % p
taken-mod a b d p zero h e l k =
    let more : a + p - b ≡ d + p = omega arith in
    rw (more, add-mod_right d p) (sym (mod-eq_of_lt l))
taken-mod a b d p (suc zero) h e l k =
    let same : a + p - b ≡ d = omega arith in
    rw same (sym (mod-eq_of_lt l))
taken-mod a b d p (suc (suc c)) h e l k = absurd (omega arith)

-- two numbers with one more bit each, worth p
pub equal-digits : (n m p x y : ℕ) → n < p → m < p → x < 2 → y < 2
    → ((n == m) && differs (not (x == 1)) (y == 1)) ≡ (n + p * x == m + p * y)
equal-digits n m p zero zero h l i j = grind (arith, nat_tests)
equal-digits n m p zero (suc zero) h l i j = grind (arith, nat_tests)
equal-digits n m p (suc zero) zero h l i j = grind (arith, nat_tests)
equal-digits n m p (suc zero) (suc zero) h l i j = grind (arith, nat_tests)
equal-digits n m p (suc (suc x)) y h l i j = absurd (omega arith)
equal-digits n m p x (suc (suc y)) h l i j = absurd (omega arith)

-- a against the value v, which may be p or more
pub equal-cut : (a v p : ℕ) → a < p → ((a == v % p) && nat_lt v p) ≡ (a == v)
equal-cut a v p h = elim (cases_lt v p) [
  | inl l ↦ rw (mod-eq_of_lt l, lt-ltb v p l) (and-true (a == v))
  | inr g ↦ rw (le-ltb v p g, ne_eqb a v (λ e. omega (arith, e))) (and-false (a == v % p))
]

pub less-cut : (a v p : ℕ) → a < p → (nat_lt a (v % p) || nat_le p v) ≡ nat_lt a v
less-cut a v p h = elim (cases_lt v p) [
  | inl l ↦ rw (mod-eq_of_lt l, lt-leb p v l) (or-false (nat_lt a v))
  | inr g ↦ rw (le-leb p v g, lt-ltb a v (omega arith)) (or-true (nat_lt a (v % p)))
]

-- the number in three planes
pub count-lists : (x y z k : ℕ) → number (x ∷ y ∷ z ∷ []) k ≡ bit_at x k + 2 * bit_at y k + 4 * bit_at z k
unfolding first
count-lists x y z k = omega arith

-- planes above the last add nothing
pub first-above : (ws : List ℕ) (d b : ℕ) → first ws (d + length ws) b ≡ number ws b
first-above ws zero b = let e : 0 + length ws ≡ length ws = omega arith in rw e refl
first-above ws (suc d) b =
    let e : suc d + length ws ≡ d + length ws + 1 = omega arith in
    let before = first-above ws d b in
    rw (
      e,
      first-more ws (d + length ws) b,
      get_or_past ws (d + length ws) 0 (omega arith),
      bit_at-zero b,
      mul-zero (2 ^ (d + length ws)),
      before,
    ) (add-zero _)

pub first-past : (ws : List ℕ) (w b : ℕ) → length ws ≤ w → first ws w b ≡ number ws b
first-past ws w b h =
    let e : w ≡ w - length ws + length ws = omega arith in
    rw e (first-above ws (w - length ws) b)

-- a plane more of the comparison
pub equal-more : (a b : List ℕ) (i same both k : ℕ)
    → is_set both k ≡ differs (not (is_set (get_or a i 0) k)) (is_set (get_or b i 0) k)
    → is_set same k ≡ (first a i k == first b i k)
    → is_set (bit_and same both) k ≡ (first a (i + 1) k == first b (i + 1) k)
equal-more a b i same both k e f =
    rw (is_set-and same both k, e, f, first-more a i k, first-more b i k)
    (equal-digits (first a i k) (first b i k) (2 ^ i) (bit_at (get_or a i 0) k) (bit_at (get_or b i 0) k)
    (first-lt a i k) (first-lt b i k) (bit_at-lt _ k) (bit_at-lt _ k))

-- the bit that the word lacks, for the samples in a mask
pub bit-lacked : (x m k : ℕ) → x < 2 ^ 64 → k < 64
    → bit_at (bit_and (bit_not w64 x) m) k ≡ (if is_set m k then 1 - bit_at x k else 0)
bit-lacked x m k fits h =
    rw (← one_if-is_set (bit_and (bit_not w64 x) m) k, is_set-and (bit_not w64 x) m k, is_set-not x k fits h)
    (lacked (is_set x k) (is_set m k))
    ∙ ap (λ n. if is_set m k then 1 - n else 0) (one_if-is_set x k)

-- what a number lacks of the greatest one, with a bit of worth p more
lacked-plane : (p n b : ℕ) → n < p → b < 2 → 2 * p - 1 - (n + p * b) ≡ p - 1 - n + p * (1 - b)
lacked-plane p n zero h g = omega (arith, mul-zero p)
lacked-plane p n (suc zero) h g = omega (arith, mul-zero p)
lacked-plane p n (suc (suc b)) h g = absurd (omega arith)

-- a plane more of what numbers lack of the greatest one
pub lacked-more : (ws : List ℕ) (w k : ℕ) (inside : Bool)
    → (if inside then 2 ^ (w + 1) - 1 - first ws (w + 1) k else 0)
    ≡ (if inside then 2 ^ w - 1 - first ws w k else 0) + 2 ^ w * (if inside then 1 - bit_at (get_or ws w 0) k else 0)
lacked-more ws w k false = omega (arith, mul-zero (2 ^ w))
lacked-more ws w k true =
    rw (first-more ws w k, power-more w)
    (lacked-plane (2 ^ w) (first ws w k) (bit_at (get_or ws w 0) k) (first-lt ws w k) (bit_at-lt _ k))

-- no plane lacks nothing
pub lacked-none : (ws : List ℕ) (k : ℕ) (inside : Bool) → 0 ≡ (if inside then 2 ^ 0 - 1 - first ws 0 k else 0)
lacked-none ws k true = omega arith
lacked-none ws k false = refl

-- what a difference that borrows lacks of the greatest number is by how much more than one it is less
pub lacked-taken : (x y r p b : ℕ) → b < 2 → x + p * b ≡ r + y → r < p → x < p
    → (if b == 1 then p - 1 - r else 0) ≡ y - x - 1
lacked-taken x y r p zero h e below _ = omega (arith, mul-zero p)
lacked-taken x y r p (suc zero) h e below _ = omega arith
lacked-taken x y r p (suc (suc b)) h e below _ = absurd (omega arith)
