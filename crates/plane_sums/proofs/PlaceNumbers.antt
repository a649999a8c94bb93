-- Numbers at places side by side: a plane that is written, and planes that agree.
use Rattle.std.proofs.Common.{inl, inr, replicate, ◌-◌, ◌%◌, ◌≡◌, ℕ, zero, suc, ◌+◌, ◌*◌, ◌^◌, ◌<◌, List, [], length, get_or, set, refl, ap, sym, ◌∙◌, arith, mul-zero}
use Rattle.std.specs.Int.{bit_at}
use Rattle.std.proofs.lemmas.List.{length-map, length-replicate, map-set, get_or-replicate, get_or_past}
use Rattle.std.proofs.lemmas.Bool.{cases_lt}
use Rattle.std.proofs.Math.Nat.{add-mod_right, mod-eq_of_lt}
use Rattle.std.proofs.lemmas.Nat.Bits.{bit_at-zero}
use Rattle.local_rule.specs.SiteBits.{lane_words}
use Rattle.multispin_word.specs.Planes.{first, number}
use Rattle.multispin_word.proofs.Numbers.{first-same, power-more}
use Rattle.bit_totals.proofs.LaneNumbers.{lane-word, number-written}
use Rattle.plane_sums.specs.Counts.{count_at}

pub planes-long : (planes : List (List ℕ)) (k : ℕ) → length (lane_words planes k) ≡ length planes
planes-long planes k = length-map planes (λ (words : List ℕ). get_or words k 0)

pub plane-written : (planes : List (List ℕ)) (w : ℕ) (new : List ℕ) (k b : ℕ) → w < length planes
    → count_at (set planes w new) k b + 2 ^ w * bit_at (get_or (get_or planes w []) k 0) b ≡ count_at planes k b + 2 ^ w * bit_at (get_or new k 0) b
plane-written planes w new k b within =
    let word = λ (words : List ℕ). get_or words k 0 in
    let long = planes-long planes k in
    let written = number-written (lane_words planes k) w (word new) b (omega (arith, long)) in
    rw (map-set word planes w new, ← lane-word planes k w) written

-- one plane more of a sum: p is the plane's worth, t what stood there, x and y what is added, c and d what is carried in and out
one-more : (p old new t u x c d : ℕ) → new + p * t ≡ old + p * u → u + 2 * d ≡ t + x + c → new + 2 * p * d ≡ old + p * x + p * c
one-more p old new t u x c d written adder =
    let scaled : p * (u + 2 * d) ≡ p * (t + x + c) = ap (λ n. p * n) adder in
    omega arith

pub plane-added : (planes : List (List ℕ)) (w : ℕ) (new : List ℕ) (k b x carry next : ℕ) → w < length planes
    → bit_at (get_or new k 0) b + 2 * next ≡ bit_at (get_or (get_or planes w []) k 0) b + x + carry
    → count_at (set planes w new) k b + 2 ^ (w + 1) * next ≡ count_at planes k b + 2 ^ w * x + 2 ^ w * carry
plane-added planes w new k b x carry next within adder =
    rw (power-more w) (one-more (2 ^ w) (count_at planes k b) (count_at (set planes w new) k b) (bit_at (get_or (get_or planes w []) k 0) b) (bit_at (get_or new k 0) b) x carry next (plane-written planes w new k b within) adder)

pub plane-carried : (planes : List (List ℕ)) (w : ℕ) (new : List ℕ) (k b carry next : ℕ) → w < length planes
    → bit_at (get_or new k 0) b + 2 * next ≡ bit_at (get_or (get_or planes w []) k 0) b + carry
    → count_at (set planes w new) k b + 2 ^ (w + 1) * next ≡ count_at planes k b + 2 ^ w * carry
plane-carried planes w new k b carry next within adder =
    let more = plane-added planes w new k b 0 carry next within (omega arith) in
    omega arith

-- planes that agree at two places have one number there
pub places-same : (vs ws : List (List ℕ)) (j k b : ℕ) → length vs ≡ length ws
    → ((w : ℕ) → w < length ws → get_or (get_or vs w []) j 0 ≡ get_or (get_or ws w []) k 0) → count_at vs j b ≡ count_at ws k b
places-same vs ws j k b long same =
    let each = first-same (lane_words vs j) (lane_words ws k) (length ws) b
    (λ w within. ap (λ n. bit_at n b) (lane-word vs j w ∙ same w within ∙ sym (lane-word ws k w))) in
    let left : length (lane_words vs j) ≡ length ws = planes-long vs j ∙ long in
    let right : length (lane_words ws k) ≡ length ws = planes-long ws k in
    ap (λ n. first (lane_words vs j) n b) left ∙ each ∙ sym (ap (λ n. first (lane_words ws k) n b) right)

-- planes without a bit have the number 0
first-clear : (words : List ℕ) (w b : ℕ) → ((j : ℕ) → j < w → get_or words j 0 ≡ 0) → first words w b ≡ 0
unfolding first
first-clear words zero b none = refl
first-clear words (suc w) b none =
    let before = first-clear words w b (λ j below. none j (omega arith)) in
    let bit = ap (λ n. bit_at n b) (none w (omega arith)) ∙ bit_at-zero b in
    rw (before, bit, mul-zero (2 ^ w)) refl

pub count-clear : (planes : List (List ℕ)) (k b : ℕ) → ((j : ℕ) → j < length planes → get_or (get_or planes j []) k 0 ≡ 0) → count_at planes k b ≡ 0
count-clear planes k b none =
    let long = planes-long planes k in
    first-clear (lane_words planes k) (length (lane_words planes k)) b (λ j below. lane-word planes k j ∙ none j (omega (arith, long)))

-- a list of zeros
pub zeros : (n k : ℕ) → get_or {A = ℕ} (replicate n 0) k 0 ≡ 0
zeros n k = elim (cases_lt k n) [
  | inl below ↦ get_or-replicate {A = ℕ} n k 0 0 below
  | inr past ↦
      let long : length (replicate {A = ℕ} n 0) ≡ n = length-replicate {A = ℕ} n 0 in
      get_or_past (replicate {A = ℕ} n 0) k 0 (omega (arith, long))
]

-- what stands at the first places and once more behind them
pub twice-there : (f g : ℕ → ℕ) (l : ℕ) → ((k : ℕ) → k < l → f k ≡ g k) → ((k : ℕ) → k < l → f (l + k) ≡ g k) → (k : ℕ) → k < 2 * l → f k ≡ g (k % l)
twice-there f g l first second k within = elim (cases_lt k l) [
  | inl less ↦ first k less ∙ ap g (sym (mod-eq_of_lt less))
  | inr not ↦
      let past : k ≡ k - l + l = omega arith in
      let here : l + (k - l) ≡ k = omega arith in
      let turned : k % l ≡ k - l = ap (λ n. n % l) past ∙ add-mod_right (k - l) l ∙ mod-eq_of_lt (omega arith) in
      ap f (sym here) ∙ second (k - l) (omega arith) ∙ ap g (sym turned)
]

-- the number in planes that have these words at a place
pub place-is : (vs : List (List ℕ)) (ws : List ℕ) (k b : ℕ) → length vs ≡ length ws
    → ((w : ℕ) → w < length ws → get_or (get_or vs w []) k 0 ≡ get_or ws w 0) → count_at vs k b ≡ number ws b
place-is vs ws k b long same =
    let all : length (lane_words vs k) ≡ length ws = planes-long vs k ∙ long in
    ap (λ n. first (lane_words vs k) n b) all ∙ first-same (lane_words vs k) ws (length ws) b (λ w within. ap (λ n. bit_at n b) (lane-word vs k w ∙ same w within))
