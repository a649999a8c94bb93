-- One sample more in a mask, and a test turned about.
use Rattle.std.proofs.Common.{inl, inr, ◌≡◌, ℕ, Bool, true, false, not, nat_lt, nat_le, bit_or, bit_and, refl}
use Rattle.std.proofs.lemmas.Bool.{cases_lt, lt-ltb, le-ltb, lt-leb, le-leb}
use Rattle.std.proofs.Math.Bool.{and-true, and-false, or-false}
use Rattle.multispin_word.specs.Planes.{is_set}
use Rattle.multispin_word.proofs.Bits.{is_set-or, is_set-and}

-- the sample that is added has the bit of the second word
pub added-here : (mask all one k : ℕ) (v : Bool) → is_set mask k ≡ false → is_set all k ≡ v → is_set one k ≡ true
    → is_set (bit_or mask (bit_and all one)) k ≡ v
added-here mask all one k v e f g =
    rw (is_set-or mask (bit_and all one) k, is_set-and all one k, e, g, and-true (is_set all k)) f

-- and the others are as they were
pub added-elsewhere : (mask all one k : ℕ) (v : Bool) → is_set mask k ≡ v → is_set one k ≡ false
    → is_set (bit_or mask (bit_and all one)) k ≡ v
added-elsewhere mask all one k v e g =
    rw (is_set-or mask (bit_and all one) k, is_set-and all one k, e, g, and-false (is_set all k)) (or-false v)

-- where one number is not less, the other is not greater
pub not-less : (a b : ℕ) → not (nat_lt a b) ≡ nat_le b a
not-less a b = elim (cases_lt a b) [
  | inl less ↦ rw (lt-ltb a b less, lt-leb b a less) refl
  | inr more ↦ rw (le-ltb a b more, le-leb b a more) refl
]
