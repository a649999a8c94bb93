-- Numbers in planes: what one plane more does, and what is below which power of two.
use Rattle.std.proofs.Common.{◌≡◌, ℕ, zero, suc, ◌+◌, ◌*◌, ◌^◌, ◌%◌, ◌<◌, ◌≤◌, List, length, get_or, set, replicate, add-one, refl, sym, ap, arith, mul-zero}
use Rattle.std.proofs.lemmas.Nat.Bits.{bit_at-lt, bit_at-zero}
use Rattle.std.proofs.lemmas.List.{get_or-set_same, get_or-set_other, get_or-replicate}
use Rattle.std.proofs.Math.Nat.{pow-succ', mul_comm, pow-le-pow_right}
use Rattle.std.proofs.lemmas.Nat.{mod-pow-add}
use Rattle.std.specs.Int.{bit_at}
use Rattle.multispin_word.specs.Planes.{first, number}

-- the worth of the next plane
pub power-more : (w : ℕ) → 2 ^ (w + 1) ≡ 2 * 2 ^ w
power-more w = rw add-one (pow-succ' 2 w)

-- no plane, no number
pub first-none : (ws : List ℕ) (b : ℕ) → first ws 0 b ≡ 0
unfolding first
first-none ws b = refl

-- a number has each plane's bit times the plane's worth
pub first-more : (ws : List ℕ) (w b : ℕ)
    → first ws (w + 1) b ≡ first ws w b + 2 ^ w * bit_at (get_or ws w 0) b
unfolding first
first-more ws w b = rw add-one refl

-- a power times a bit
pub scaled : (p n : ℕ) → n < 2 → p * n ≤ p
scaled p zero h = omega (arith, mul-zero p)
scaled p (suc zero) h = omega arith
scaled p (suc (suc n)) h = absurd (omega arith)

-- w planes hold a number below 2 ^ w
pub first-lt : (ws : List ℕ) (w b : ℕ) → first ws w b < 2 ^ w
unfolding first
first-lt ws zero b = omega arith
first-lt ws (suc w) b =
    let before = first-lt ws w b in
    let one = scaled (2 ^ w) (bit_at (get_or ws w 0) b) (bit_at-lt _ _) in
    rw (pow-succ' 2 w) (omega arith)

-- planes that agree have one number
pub first-same : (vs ws : List ℕ) (w b : ℕ)
    → ((j : ℕ) → j < w → bit_at (get_or vs j 0) b ≡ bit_at (get_or ws j 0) b)
    → first vs w b ≡ first ws w b
unfolding first
first-same vs ws zero b same = refl
first-same vs ws (suc w) b same =
    let before = first-same vs ws w b (λ j h. same j (omega arith)) in
    rw (before, same w (omega arith)) refl

-- a plane that is written
pub first-set : (ws : List ℕ) (i x b : ℕ) → i < length ws
    → first (set ws i x) (i + 1) b ≡ first ws i b + 2 ^ i * bit_at x b
first-set ws i x b h =
    let below = first-same (set ws i x) ws i b (λ j k.
    ap (λ t. bit_at t b) (get_or-set_other ws i j x 0 (λ e. omega (arith, e, k)))) in
    rw (first-more (set ws i x) i b, below, get_or-set_same ws i x 0 h) refl

-- planes of zeros hold the number 0
pub first-zeros : (n w b : ℕ) → w ≤ n → first (replicate n 0) w b ≡ 0
unfolding first
first-zeros n zero b h = refl
first-zeros n (suc w) b h =
    let before = first-zeros n w b (omega arith) in
    rw (before, get_or-replicate {A = ℕ} n w 0 0 (omega arith), bit_at-zero b, mul-zero (2 ^ w)) refl

-- the low w + 1 bits of a number are the low w and bit w
pub low-more : (v w : ℕ) → v % 2 ^ (w + 1) ≡ v % 2 ^ w + 2 ^ w * bit_at v w
low-more v w =
    let split = mod-pow-add v 1 w in
    let order : 1 + w ≡ w + 1 = omega arith in
    let turned = mul_comm (2 ^ w) (bit_at v w) in
    rw (← order) (omega (arith, split, turned))

-- the first w of w planes are all
pub whole : (ws : List ℕ) (w b : ℕ) → w ≡ length ws → first ws w b ≡ number ws b
whole ws w b e = rw e refl

-- up to 20 planes hold a number below 2 ^ 20
pub first-small : (ws : List ℕ) (w b : ℕ) → w ≤ 20 → first ws w b < 2 ^ 20
first-small ws w b h =
    let most = pow-le-pow_right {n = 2} (omega arith) h in
    omega (arith, first-lt ws w b, most)

-- a plane is written: n is the number below it, m its new bit, v the number with it
pub set-more : (ws : List ℕ) (i x b n m v : ℕ) → i < length ws
    → first ws i b ≡ n → bit_at x b ≡ m → v ≡ n + 2 ^ i * m
    → first (set ws i x) (i + 1) b ≡ v
set-more ws i x b n m v h e f g = rw (first-set ws i x b h, e, f) (sym g)

-- a number is below 2 to the number of planes
pub number-lt : (ws : List ℕ) (w b : ℕ) → length ws ≡ w → number ws b < 2 ^ w
number-lt ws w b e = rw (← e) (first-lt ws (length ws) b)
