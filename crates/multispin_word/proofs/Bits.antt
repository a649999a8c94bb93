-- A bit of a word as a truth value: what each operation on words does to it.
use Rattle.std.proofs.Common.{◌≡◌, ℕ, zero, suc, ◌+◌, ◌-◌, ◌*◌, ◌^◌, ◌%◌, ◌<◌, ◌==◌, ◌&&◌, ◌||◌, not, min, max, Bool, true, false, if◌then◌else◌, inl, inr, refl, sym, ap, ◌∙◌, arith, bit_xor, bit_and, bit_or}
use Rattle.std.proofs.lemmas.Bool.{cases_Bool, eqb-true, eqb-false}
use Rattle.std.proofs.lemmas.Nat.Bits.{bit_at_and, bit_at_or, bit_at_xor, bit_at_not, bit_at_ones, bit_at-lt, bit_at-zero, bit_at-pow_same, bit_at-pow_other}
use Rattle.std.proofs.lemmas.Nat.{one_shl}
use Rattle.std.specs.Int.{bit_at, bit_not, w64}
use Rattle.multispin_word.specs.Planes.{is_set, one_if, differs}

-- what holds of 0 and 1 holds of a bit
pub for_bit : (P : ℕ → Type 0) → P 0 → P 1 → (n : ℕ) → n < 2 → P n
for_bit P p q zero h = p
for_bit P p q (suc zero) h = q
for_bit P p q (suc (suc n)) h = absurd (omega arith)

-- what holds of each two of 0 and 1 holds of two bits
pub for_bits : (P : ℕ → ℕ → Type 0) → P 0 0 → P 0 1 → P 1 0 → P 1 1
    → (v w b : ℕ) → P (bit_at v b) (bit_at w b)
for_bits P p q r s v w b =
    let zero_first = for_bit (P 0) p q _ (bit_at-lt w b) in
    let one_first = for_bit (P 1) r s _ (bit_at-lt w b) in
    for_bit (λ m. P m (bit_at w b)) zero_first one_first _ (bit_at-lt v b)

-- a bit as a number is its truth value counted
pub one_if-is_set : (w b : ℕ) → one_if (is_set w b) ≡ bit_at w b
one_if-is_set w b = for_bit (λ n. one_if (n == 1) ≡ n) refl refl _ (bit_at-lt w b)

pub is_set-and : (v w b : ℕ) → is_set (bit_and v w) b ≡ (is_set v b && is_set w b)
is_set-and v w b = rw (bit_at_and v w b)
    (for_bits (λ m n. (min m n == 1) ≡ ((m == 1) && (n == 1))) refl refl refl refl v w b)

pub is_set-or : (v w b : ℕ) → is_set (bit_or v w) b ≡ (is_set v b || is_set w b)
is_set-or v w b = rw (bit_at_or v w b)
    (for_bits (λ m n. (max m n == 1) ≡ ((m == 1) || (n == 1))) refl refl refl refl v w b)

pub is_set-xor : (v w b : ℕ) → is_set (bit_xor v w) b ≡ differs (is_set v b) (is_set w b)
is_set-xor v w b = rw (bit_at_xor v w b)
    (for_bits (λ m n. ((m + n) % 2 == 1) ≡ differs (m == 1) (n == 1)) refl refl refl refl v w b)

pub is_set-not : (w b : ℕ) → w < 2 ^ 64 → b < 64 → is_set (bit_not w64 w) b ≡ not (is_set w b)
is_set-not w b h k = rw (bit_at_not w64 w b h k)
    (for_bit (λ n. (1 - n == 1) ≡ not (n == 1)) refl refl _ (bit_at-lt w b))

pub is_set-ones : (b : ℕ) → b < 64 → is_set (2 ^ 64 - 1) b ≡ true
is_set-ones b h = rw (bit_at_ones 64 b h) refl

pub is_set-zero : (b : ℕ) → is_set 0 b ≡ false
is_set-zero b = rw (bit_at-zero b) refl

-- a power of two has its own bit alone
pub is_set-power : (k b : ℕ) → k < 64 → is_set (1 * 2 ^ k % 2 ^ 64) b ≡ (b == k)
is_set-power k b h = rw (one_shl k 64 h) (elim (cases_Bool (b == k)) [
  | inl e ↦ let same = eqb-true b k e in rw (e, same, bit_at-pow_same k) refl
  | inr e ↦ rw (e, bit_at-pow_other k b (eqb-false b k e)) refl
])

-- on truth values: x where m holds, else y
pub chosen : (m x y : Bool) → differs y (m && differs x y) ≡ (if m then x else y)
chosen true true true = refl
chosen true true false = refl
chosen true false true = refl
chosen true false false = refl
chosen false true true = refl
chosen false true false = refl
chosen false false true = refl
chosen false false false = refl

-- the bits of x in the mask m, and those of y outside it
pub is_set-choose : (m x y b : ℕ)
    → is_set (bit_xor y (bit_and m (bit_xor x y))) b ≡ (if is_set m b then is_set x b else is_set y b)
is_set-choose m x y b =
    rw (is_set-xor y (bit_and m (bit_xor x y)) b, is_set-and m (bit_xor x y) b, is_set-xor x y b)
    (chosen (is_set m b) (is_set x b) (is_set y b))

-- equal tests are equal bits
pub same-bit : (v a w b : ℕ) → is_set v a ≡ is_set w b → bit_at v a ≡ bit_at w b
same-bit v a w b e = sym (one_if-is_set v a) ∙ ap one_if e ∙ one_if-is_set w b
