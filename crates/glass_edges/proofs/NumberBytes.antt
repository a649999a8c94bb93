-- Numbers of four and eight bytes at the front of a file, the same bytes written again, and bytes put together.
use Rattle.std.proofs.Common.{◌≡◌, ℕ, ◌+◌, ◌<◌, ◌≤◌, ◌^◌, List, ◌++◌, length, take, drop, get_or, get_or-drop, sym, ap, ◌∙◌, arith, inl, inr}
use Rattle.std.specs.Int.{w32, w64, from_be_bytes}
use Rattle.std.proofs.lemmas.Bool.{cases_lt}
use Rattle.std.proofs.lemmas.List.{get_or-take, get_or_past, length-take}
use Rattle.std.proofs.lemmas.Nat.{be_bytes_4, be_bytes_8, from_be_bytes-to_be_bytes_4}
use Rattle.byteorder.specs.Endian.{big_bytes, big_number}
use Rattle.byteorder.specs.Numbers.{big_from-take}

abbrev pub IsBytes : List ℕ → Type 0
IsBytes bytes = (i : ℕ) → get_or bytes i 0 < 256

pub bytes-drop : (n : ℕ) (bytes : List ℕ) → IsBytes bytes → IsBytes (drop n bytes)
bytes-drop n bytes are i = rw get_or-drop (are (n + i))

pub bytes-take : (n : ℕ) (bytes : List ℕ) → IsBytes bytes → IsBytes (take n bytes)
bytes-take n bytes are i =
    elim (cases_lt i n) [
      | inl lt ↦ rw (get_or-take n bytes i 0 lt) (are i)
      | inr le ↦ rw (get_or_past (take n bytes) i 0 (omega (arith, length-take n bytes))) (omega arith)
    ]

word-is : (bytes : List ℕ) → big_number 4 bytes ≡ from_be_bytes w32 bytes
word-is bytes = omega arith

long_word-is : (bytes : List ℕ) → big_number 8 bytes ≡ from_be_bytes w64 bytes
long_word-is bytes = omega arith

-- the word at the front, written again
pub word-back : (bytes : List ℕ) → IsBytes bytes → 4 ≤ length bytes → big_bytes 4 (big_number 4 bytes) ≡ take 4 bytes
word-back bytes are long =
    be_bytes_4 (take 4 bytes) (big_number 4 bytes) (omega (arith, length-take 4 bytes)) (bytes-take 4 bytes are)
    (sym (big_from-take 0 4 4 bytes (omega arith)) ∙ word-is (take 4 bytes))

pub long_word-back : (bytes : List ℕ) → IsBytes bytes → 8 ≤ length bytes → big_bytes 8 (big_number 8 bytes) ≡ take 8 bytes
long_word-back bytes are long =
    be_bytes_8 (take 8 bytes) (big_number 8 bytes) (omega (arith, length-take 8 bytes)) (bytes-take 8 bytes are)
    (sym (big_from-take 0 8 8 bytes (omega arith)) ∙ long_word-is (take 8 bytes))

-- the word that was written at the front
pub word-read : (n : ℕ) (bytes : List ℕ) → n < 2 ^ 32 → take 4 bytes ≡ big_bytes 4 n → big_number 4 bytes ≡ n
word-read n bytes small written =
    sym (big_from-take 0 4 4 bytes (omega arith)) ∙ ap (big_number 4) written ∙ word-is (big_bytes 4 n) ∙ from_be_bytes-to_be_bytes_4 n small

-- both parts of a text are the same
pub join : (a b c d : List ℕ) → a ≡ c → b ≡ d → a ++ b ≡ c ++ d
join a b c d p q = cc
