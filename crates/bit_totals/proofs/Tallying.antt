-- Numbers in four lanes: their sum, and what words side by side add to it.
use Rattle.std.proofs.Common.{◌≡◌, ℕ, zero, suc, ◌+◌, ◌*◌, ◌<◌, ◌≤◌, List, length, get_or, replicate, refl, sym, ap, ◌∙◌, arith, add-one}
use Rattle.std.specs.Int.{bit_at}
use Rattle.std.proofs.lemmas.Nat.Bits.{bit_at-zero}
use Rattle.std.proofs.lemmas.List.{get_or_past}
use Rattle.spin_model.proofs.Tables.{count_below-more, count_below-zero}
use Rattle.multispin_word.specs.Planes.{is_set}
use Rattle.multispin_word.proofs.Bits.{one_if-is_set}
use Rattle.bit_totals.specs.Tallies.{lane_number, in_lanes, tallied, mixed, set_below, set_lanes}
use Rattle.bit_totals.proofs.LaneNumbers.{none-set}
use Rattle.spin_model.proofs.Counts.{count-same, count-most}
use Rattle.bit_totals.proofs.PlaceCounts.{count-add}

pub in_lanes-none : (rows : List (List ℕ)) (b : ℕ) → in_lanes rows b 0 ≡ 0
unfolding in_lanes
in_lanes-none rows b = refl

pub in_lanes-more : (rows : List (List ℕ)) (b n : ℕ) → in_lanes rows b (n + 1) ≡ in_lanes rows b n + lane_number rows n b
unfolding in_lanes
in_lanes-more rows b n = rw add-one refl

pub in_lanes-le : (rows : List (List ℕ)) (b n m : ℕ) → in_lanes rows b n ≤ in_lanes rows b (m + n)
unfolding in_lanes
in_lanes-le rows b n zero = let place : 0 + n ≡ n = omega arith in rw place (omega arith)
in_lanes-le rows b n (suc m) =
    let before = in_lanes-le rows b n m in
    let more = in_lanes-more rows b (m + n) in
    let place : suc m + n ≡ m + n + 1 = omega arith in
    rw place (omega arith)

-- the sum of f over the lanes
abbrev pub over_lanes : (ℕ → ℕ) → ℕ
over_lanes f = f 0 + f 1 + f 2 + f 3

pub tallied-is : (rows : List (List ℕ)) (b : ℕ) → tallied rows b ≡ over_lanes (λ i. lane_number rows i b)
unfolding in_lanes
tallied-is rows b = omega arith

set-more : (word : ℕ → ℕ) (b n m : ℕ) → m ≡ n + 1 → set_below word b m ≡ set_below word b n + bit_at (word n) b
set-more word b n m e =
    ap (set_below word b) e ∙ count_below-more (λ j. is_set (word j) b) n ∙ ap (λ k. set_below word b n + k) (one_if-is_set (word n) b)

-- of four words the bits are counted
pub set_lanes-is : (words : List ℕ) (b : ℕ) → set_lanes words b ≡ over_lanes (λ i. bit_at (get_or words i 0) b)
unfolding set_lanes
set_lanes-is words b =
    let word = λ (i : ℕ). get_or words i 0 in
    let none = count_below-zero (λ j. is_set (word j) b) in
    let a = set-more word b 0 1 (omega arith) in
    let c = set-more word b 1 2 (omega arith) in
    let d = set-more word b 2 3 (omega arith) in
    let e = set-more word b 3 4 (omega arith) in
    omega arith

pub set_lanes-none : (b : ℕ) → set_lanes (replicate 4 0) b ≡ 0
set_lanes-none b =
    let sum = set_lanes-is (replicate 4 0) b in
    let a = none-set 0 b (omega arith) in
    let c = none-set 1 b (omega arith) in
    let d = none-set 2 b (omega arith) in
    let e = none-set 3 b (omega arith) in
    omega arith

-- in each lane a row takes up two words and gives what is carried
all-taken-up : (p : ℕ) (old new carry first second : ℕ → ℕ) → ((i : ℕ) → i < 4 → new i + 2 * p * carry i ≡ old i + p * (first i + second i))
    → over_lanes new + 2 * p * over_lanes carry ≡ over_lanes old + p * (over_lanes first + over_lanes second)
all-taken-up p old new carry first second each =
    let l0 = each 0 (omega arith) in
    let l1 = each 1 (omega arith) in
    let l2 = each 2 (omega arith) in
    let l3 = each 3 (omega arith) in
    omega arith

pub tallied-two : (old new : List (List ℕ)) (carry first second : List ℕ) (p b : ℕ)
    → ((i : ℕ) → i < 4 → lane_number new i b + 2 * p * bit_at (get_or carry i 0) b ≡ lane_number old i b + p * (bit_at (get_or first i 0) b + bit_at (get_or second i 0) b))
    → tallied new b + 2 * p * set_lanes carry b ≡ tallied old b + p * (set_lanes first b + set_lanes second b)
tallied-two old new carry first second p b each =
    rw (tallied-is new b, tallied-is old b, set_lanes-is carry b, set_lanes-is first b, set_lanes-is second b)
    (all-taken-up p (λ i. lane_number old i b) (λ i. lane_number new i b) (λ i. bit_at (get_or carry i 0) b) (λ i. bit_at (get_or first i 0) b) (λ i. bit_at (get_or second i 0) b) each)

-- in each lane three words are added
pub lanes-three : (low high a b d : List ℕ) (k : ℕ) → ((i : ℕ) → i < 4 → bit_at (get_or low i 0) k + 2 * bit_at (get_or high i 0) k ≡ bit_at (get_or a i 0) k + bit_at (get_or b i 0) k + bit_at (get_or d i 0) k)
    → set_lanes low k + 2 * set_lanes high k ≡ set_lanes a k + set_lanes b k + set_lanes d k
lanes-three low high a b d k each =
    let l0 = each 0 (omega arith) in
    let l1 = each 1 (omega arith) in
    let l2 = each 2 (omega arith) in
    let l3 = each 3 (omega arith) in
    rw (set_lanes-is low k, set_lanes-is high k, set_lanes-is a k, set_lanes-is b k, set_lanes-is d k) (omega arith)

-- four places more are the four words there
pub set-row : (row : List ℕ) (word : ℕ → ℕ) (b n m : ℕ) → m ≡ n + 4 → ((i : ℕ) → i < 4 → get_or row i 0 ≡ word (n + i))
    → set_below word b m ≡ set_below word b n + set_lanes row b
unfolding set_lanes
set-row row word b n m e same =
    let each = count-same (λ j. is_set (get_or row j 0) b) (λ j. is_set (word (n + j)) b) 4 (λ j h. ap (λ k. is_set k b) (same j h)) in
    ap (set_below word b) e ∙ count-add (λ j. is_set (word j) b) n 4 ∙ ap (λ k. set_below word b n + k) (sym each)

-- no more words are set than there are
pub set-le : (word : ℕ → ℕ) (b n : ℕ) → set_below word b n ≤ n
set-le word b n = count-most (λ j. is_set (word j) b) n

pub set-more-le : (word : ℕ → ℕ) (b n m : ℕ) → set_below word b (n + m) ≤ set_below word b n + m
set-more-le word b n m =
    let more = count-add (λ j. is_set (word j) b) n m in
    let most = count-most (λ j. is_set (word (n + j)) b) m in
    omega arith

mixed-past : (f s t : List ℕ) (j : ℕ) → length f ≤ j → length s ≡ length f → length t ≡ length f → mixed f s t j ≡ 0
mixed-past f s t j h k l =
    let first = get_or_past f j 0 h in
    let second = get_or_past s j 0 (omega arith) in
    let third = get_or_past t j 0 (omega arith) in
    rw (first, second, third) refl

-- past the end of the three lists nothing is set
pub set-past : (f s t : List ℕ) (b m : ℕ) → length s ≡ length f → length t ≡ length f → set_below (mixed f s t) b (m + length f) ≡ set_below (mixed f s t) b (length f)
set-past f s t b zero k l = let place : 0 + length f ≡ length f = omega arith in rw place refl
set-past f s t b (suc m) k l =
    let before = set-past f s t b m k l in
    let none = mixed-past f s t (m + length f) (omega arith) k l in
    let bit = ap (λ n. bit_at n b) none ∙ bit_at-zero b in
    let more = set-more (mixed f s t) b (m + length f) (suc m + length f) (omega arith) in
    omega arith
