-- Numbers in lanes: the words of a lane, and the number in planes of which one is written.
use Rattle.std.proofs.Common.{◌≡◌, ℕ, zero, suc, ◌+◌, ◌-◌, ◌*◌, ◌^◌, ◌<◌, List, [], length, get_or, set, replicate, ap, ◌∙◌, arith}
use Rattle.std.specs.Int.{bit_at}
use Rattle.std.proofs.lemmas.List.{get_or-set_other, length-set}
use Rattle.std.proofs.lemmas.Nat.Bits.{bit_at-zero}
use Rattle.std.proofs.lemmas.Simd.{get_or-replicate}
use Rattle.std.proofs.Math.ListN.{get_or-map}
use Rattle.multispin_word.specs.Planes.{first, number}
use Rattle.multispin_word.proofs.Numbers.{first-more, first-set}
use Rattle.local_rule.specs.SiteBits.{lane_words}

-- word w of a lane is the lane's word of row w, also where there is no such row
pub lane-word : (rows : List (List ℕ)) (i w : ℕ) → get_or (lane_words rows i) w 0 ≡ get_or (get_or rows w []) i 0
lane-word rows i w = get_or-map (λ (words : List ℕ). get_or words i 0) rows w []

-- a row without bits has none in any lane
pub none-set : (i b : ℕ) → i < 4 → bit_at (get_or (replicate 4 0) i 0) b ≡ 0
none-set i b h = ap (λ x. bit_at x b) (get_or-replicate {A = ℕ} 4 i 0 0 h) ∙ bit_at-zero b

-- a plane that is written, seen from m planes above it
first-written : (ws : List ℕ) (w x b m : ℕ) → w < length ws
    → first (set ws w x) (m + (w + 1)) b + 2 ^ w * bit_at (get_or ws w 0) b ≡ first ws (m + (w + 1)) b + 2 ^ w * bit_at x b
first-written ws w x b zero h =
    let place : 0 + (w + 1) ≡ w + 1 = omega arith in
    let new = first-set ws w x b h in
    let old = first-more ws w b in
    rw place (omega arith)
first-written ws w x b (suc m) h =
    let top = m + (w + 1) in
    let place : suc m + (w + 1) ≡ top + 1 = omega arith in
    let before = first-written ws w x b m h in
    let other = ap (λ word. bit_at word b) (get_or-set_other ws w top x 0 (λ e. omega (arith, e))) in
    let new = first-more (set ws w x) top b ∙ ap (λ n. first (set ws w x) top b + 2 ^ top * n) other in
    let old = first-more ws top b in
    rw place (omega arith)

-- and in all planes
pub number-written : (ws : List ℕ) (w x b : ℕ) → w < length ws
    → number (set ws w x) b + 2 ^ w * bit_at (get_or ws w 0) b ≡ number ws b + 2 ^ w * bit_at x b
number-written ws w x b h =
    let all : length ws - (w + 1) + (w + 1) ≡ length ws = omega arith in
    let written = rw all at (first-written ws w x b (length ws - (w + 1)) h) in
    rw (length-set ws w x) written

-- a bit t worth p of a number is written over by the low bit x of its sum with two more, whose high bit is c
pub taken-up : (p old new t x c a b : ℕ) → new + p * t ≡ old + p * x → x + 2 * c ≡ t + a + b → new + 2 * p * c ≡ old + p * (a + b)
taken-up p old new t x c a b written adder =
    let scaled : p * (x + 2 * c) ≡ p * (t + a + b) = ap (λ n. p * n) adder in
    omega arith
