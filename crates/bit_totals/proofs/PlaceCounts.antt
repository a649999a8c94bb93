-- Counts at the first places of the compact order, and over all bonds and sites.
use Rattle.std.proofs.Common.{◌≡◌, ℕ, zero, suc, ◌+◌, ◌-◌, ◌*◌, ◌/◌, ◌%◌, ◌^◌, ◌<◌, ◌≤◌, Bool, true, false, List, [], length, get_or, bit_xor, ap, refl, sym, ◌∙◌, arith}
use Rattle.std.proofs.Math.Nat.{add-mul, mul_assoc, mul-le-mul_right}
use Rattle.std.proofs.lemmas.Nat.{mul-le}
use Rattle.spin_model.specs.Words.{is_set, one_if}
use Rattle.spin_model.specs.Steps.{count_below}
use Rattle.spin_model.specs.Lattice.{IsLawfulSize, volume, forward, half_plane, compact, from_compact}
use Rattle.spin_model.proofs.Sites.{volume-bound}
use Rattle.spin_model.proofs.Counts.{count-same, count-most}
use Rattle.spin_model.proofs.Tables.{get_or-table, count_below-more}
use Rattle.spin_model.proofs.CompactOrder.{compact-below, from_compact-compact, from_compact-below, compact-from_compact}
use Rattle.multispin_word.specs.Planes.{differs}
use Rattle.multispin_word.proofs.Bits.{is_set-xor, is_set-ones}
use Rattle.scalar_rule.specs.Neighbours.{spin, agree}
use Rattle.scalar_rule.specs.Sums.{agreeing}
use Rattle.scalar_rule.proofs.FiniteSums.{ArePermutation, count-sum, sum-permuted}
use Rattle.scalar_rule.proofs.Shifts.{shift-x, shift-y, shift-z}
use Rattle.plane_sweep.specs.Packed.{plane_at, word_at, spins_of, FitsReplica}
use Rattle.plane_sweep.specs.declared.replica.Plane.{Plane}
use Rattle.plane_sweep.specs.declared.replica.Replica.{Replica}
use Rattle.bit_totals.specs.Tallies.{mixed, set_below}
use Rattle.bit_totals.specs.Counted.{agreeing_from, HaveOneSize}
use Rattle.bit_totals.proofs.Places.{Within, site-below, own-word}

-- a count, and then that of the numbers behind it
pub count-add : (t : ℕ → Bool) (n m : ℕ) → count_below t (n + m) ≡ count_below t n + count_below (λ j. t (n + j)) m
unfolding count_below
count-add t n zero = let same : n + 0 ≡ n = omega arith in ap (count_below t) same ∙ omega arith
count-add t n (suc m) =
    let before = count-add t n m in
    let place : n + suc m ≡ n + m + 1 = omega arith in
    ap (count_below t) place ∙ count_below-more t (n + m) ∙ omega arith

-- a step ahead stays on the lattice
pub forward-below : (l i d : ℕ) → IsLawfulSize l → i < volume l → d < 3 → forward l i d < volume l
forward-below l i zero lawful below h = (shift-x l (omega (arith, lawful.0))).on i below
forward-below l i (suc zero) lawful below h = (shift-y l (omega (arith, lawful.0))).on i below
forward-below l i (suc (suc zero)) lawful below h = (shift-z l (omega (arith, lawful.0))).on i below
forward-below l i (suc (suc (suc d))) lawful below h = absurd (omega arith)

-- the compact order has each site once
pub compact-order : (l : ℕ) → IsLawfulSize l → ArePermutation (from_compact l) (compact l) (volume l)
compact-order l lawful = record {
  on = λ p h. from_compact-below l p lawful;
  back = λ i h. compact-below l i lawful h;
  undone = λ p h. compact-from_compact l p lawful h;
  redone = λ i h. from_compact-compact l i lawful h;
}

pub places-all : (l : ℕ) → IsLawfulSize l → 2 * l * half_plane l ≡ volume l
places-all l lawful =
    let even : l ≡ l / 2 * 2 = omega (arith, lawful.2) in
    let cube = mul_assoc l l l in
    let plane : l * l ≡ half_plane l * 2 = ap (λ m. l * m) even ∙ sym (mul_assoc l (l / 2) 2) in
    let whole = ap (λ m. l * m) plane in
    let all = mul_assoc l (half_plane l) 2 in
    let twice = mul_assoc 2 l (half_plane l) in
    omega arith

-- a plane of a replica that fits has as many words as sites
pub plane-sized : (l k : ℕ) (replica : Replica) → FitsReplica l replica → k < 2 * l → length (plane_at replica.planes k).words ≡ half_plane l
plane-sized l k replica fits below = let count = fits.count in (fits.planes k (record { words = []; wheel = [] }) (omega arith)).sized

-- the places of a plane are below the volume
pub planes-within : (l q : ℕ) → IsLawfulSize l → q < 2 * l → q * half_plane l + half_plane l ≤ volume l
planes-within l q lawful below =
    let more = add-mul q 1 (half_plane l) in
    let bound = mul-le-mul_right (half_plane l) below in
    let whole = places-all l lawful in
    omega arith

-- and at most 64 ^ 3
pub planes-room : (l q : ℕ) → IsLawfulSize l → q < 2 * l → q * half_plane l + half_plane l ≤ 262144
planes-room l q lawful below = omega (arith, planes-within l q lawful below, volume-bound l lawful)

-- a plane has at most 2048 words
pub plane-room : (l : ℕ) → IsLawfulSize l → half_plane l ≤ 2048
plane-room l lawful = mul-le l (l / 2) 64 32 (omega (arith, lawful.1)) (omega (arith, lawful.1))

-- on truth values: where both are set or neither
alike : (own other : Bool) → differs (differs true own) other ≡ agree own other
alike true true = refl
alike true false = refl
alike false true = refl
alike false false = refl

-- at place j of plane q two replicas agree
agree-at : (l q j s : ℕ) (a b : List Plane) (ones own other : List ℕ) → Within l q j → s < 64
    → get_or ones j 0 ≡ 2 ^ 64 - 1 → own ≡ (plane_at a q).words → other ≡ (plane_at b q).words
    → is_set (mixed ones own other j) s ≡ agree (spin (spins_of l s a) (from_compact l (q * half_plane l + j))) (spin (spins_of l s b) (from_compact l (q * half_plane l + j)))
unfolding spins_of
agree-at l q j s a b ones own other w h n o p =
    let i = from_compact l (q * half_plane l + j) in
    let below = site-below l q j w in
    let mine = ap (λ ws. get_or ws j 0) o ∙ own-word l q j a w in
    let yours = ap (λ ws. get_or ws j 0) p ∙ own-word l q j b w in
    let first = get_or-table (λ k. is_set (word_at l a k) s) (volume l) i false below in
    let second = get_or-table (λ k. is_set (word_at l b k) s) (volume l) i false below in
    is_set-xor (bit_xor (get_or ones j 0) (get_or own j 0)) (get_or other j 0) s
    ∙ ap (λ t. differs t (is_set (get_or other j 0) s)) (is_set-xor (get_or ones j 0) (get_or own j 0) s)
    ∙ rw (n, is_set-ones s h, mine, yours, first, second) (alike (is_set (word_at l a i) s) (is_set (word_at l b i) s))

-- a plane more
pub plane-agreeing : (l q s : ℕ) (a b : List Plane) (ones own other : List ℕ) → IsLawfulSize l → q < 2 * l → s < 64
    → length ones ≡ half_plane l → ((j : ℕ) → j < half_plane l → get_or ones j 0 ≡ 2 ^ 64 - 1)
    → own ≡ (plane_at a q).words → other ≡ (plane_at b q).words
    → agreeing_from l (spins_of l s a) (spins_of l s b) ((q + 1) * half_plane l)
    ≡ agreeing_from l (spins_of l s a) (spins_of l s b) (q * half_plane l) + set_below (mixed ones own other) s (length ones)
unfolding agreeing_from
plane-agreeing l q s a b ones own other lawful below h long all o p =
    let more = add-mul q 1 (half_plane l) in
    let place : (q + 1) * half_plane l ≡ q * half_plane l + half_plane l = omega arith in
    let test = λ (k : ℕ). agree (spin (spins_of l s a) (from_compact l k)) (spin (spins_of l s b) (from_compact l k)) in
    let each = count-same (λ j. is_set (mixed ones own other j) s) (λ j. test (q * half_plane l + j)) (half_plane l)
    (λ j k. agree-at l q j s a b ones own other (record { lawful = lawful; plane = below; place = k }) h (all j k) o p) in
    ap (count_below test) place ∙ count-add test (q * half_plane l) (half_plane l)
    ∙ ap (λ k. agreeing_from l (spins_of l s a) (spins_of l s b) (q * half_plane l) + k) (sym (ap (set_below (mixed ones own other) s) long ∙ each))

pub agreeing-le : (l : ℕ) (a b : List Bool) (n : ℕ) → agreeing_from l a b n ≤ n
unfolding agreeing_from
agreeing-le l a b n = count-most _ n

pub agreeing-zero : (l : ℕ) (a b : List Bool) → agreeing_from l a b 0 ≡ 0
unfolding agreeing_from count_below
agreeing-zero l a b = refl

-- at all places these are all sites
pub all-agreeing : (l : ℕ) (a b : List Bool) → IsLawfulSize l → agreeing_from l a b (2 * l * half_plane l) ≡ agreeing l a b
unfolding agreeing_from
all-agreeing l a b lawful =
    let test = λ (i : ℕ). agree (spin a i) (spin b i) in
    rw (places-all l lawful)
    (count-sum (λ p. test (from_compact l p)) (volume l)
    ∙ sum-permuted (λ i. one_if (test i)) (from_compact l) (compact l) (volume l) (compact-order l lawful)
    ∙ sym (count-sum test (volume l)))

-- a replica fits one size alone
pub size-lawful : (l : ℕ) (a b : Replica) → FitsReplica l a → HaveOneSize a b → IsLawfulSize l
size-lawful l a b f one =
    let size : l ≡ one.size = omega (arith, f.count, one.first.count) in
    let even = one.lawful.2 in
    (omega (arith, one.lawful.0), omega (arith, one.lawful.1), ap (λ n. n % 2) size ∙ even)
