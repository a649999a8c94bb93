-- Terms at the first places of the compact order, and over all sites and bonds.
use Rattle.std.proofs.Common.{◌≡◌, ℕ, zero, suc, ◌+◌, ◌*◌, ◌/◌, ◌%◌, ◌<◌, ◌≤◌, Bool, true, false, List, get_or, bit_xor, ap, ap₂, refl, sym, ◌∙◌, arith}
use Rattle.std.proofs.Math.Nat.{add-mul}
use Rattle.spin_model.specs.Words.{is_set, one_if}
use Rattle.spin_model.specs.Steps.{count_below}
use Rattle.spin_model.specs.Lattice.{IsLawfulSize, volume, bond_count, forward, half_plane, compact, from_compact}
use Rattle.spin_model.proofs.Tables.{get_or-table}
use Rattle.multispin_word.specs.Planes.{differs}
use Rattle.multispin_word.proofs.Bits.{is_set-xor}
use Rattle.scalar_rule.specs.Neighbours.{agree}
use Rattle.scalar_rule.proofs.Extremes.{sum-same}
use Rattle.scalar_rule.proofs.FiniteSums.{count-sum, sum-permuted, sum-thirds}
use Rattle.plane_sweep.specs.Packed.{plane_at, word_at, spins_of}
use Rattle.plane_sweep.specs.declared.replica.Plane.{Plane}
use Rattle.bit_totals.specs.Tallies.{mixed, set_below}
use Rattle.bit_totals.proofs.Places.{Within, site-below, own-word}
use Rattle.spin_model.proofs.Counts.{count-same, count-most}
use Rattle.bit_totals.proofs.PlaceCounts.{count-add, forward-below, compact-order, places-all}
use Rattle.overlap_lines.specs.Overlaps.{steps_on, term, agreeing_bonds, agreeing_line}
use Rattle.overlap_lines.specs.Counted.{line_from, plane_on, place_on}
use Rattle.overlap_lines.proofs.StepPlaces.{word-on}

-- ---- steps stay on the lattice

steps-below : (l i d r : ℕ) → IsLawfulSize l → i < volume l → d < 3 → steps_on l i d r < volume l
unfolding steps_on
steps-below l i d zero lawful below h = below
steps-below l i d (suc r) lawful below h = forward-below l (steps_on l i d r) d lawful (steps-below l i d r lawful below h) h

-- ---- place by place

-- on truth values: the exclusive or of three
both : (a b c d : Bool) → differs (differs a b) (agree c d) ≡ agree (agree a b) (agree c d)
both true true c d = refl
both true false c d = refl
both false true c d = refl
both false false c d = refl

-- at place j of plane q, from the words of both replicas there and of q at the sites r steps on
term-at : (l q j d r b : ℕ) (first second : List Plane) (own other ahead : List ℕ) → Within l q j → d < 3 → r ≤ l / 2
    → own ≡ (plane_at first q).words → other ≡ (plane_at second q).words
    → is_set (get_or ahead j 0) b
    ≡ agree (is_set (get_or (plane_at first (plane_on l q d r)).words (place_on l q d r j) 0) b) (is_set (get_or (plane_at second (plane_on l q d r)).words (place_on l q d r j) 0) b)
    → is_set (mixed own other ahead j) b ≡ term (spins_of l b first) (spins_of l b second) (from_compact l (q * half_plane l + j)) (steps_on l (from_compact l (q * half_plane l + j)) d r)
unfolding spins_of
term-at l q j d r b first second own other ahead w h far o p on =
    let i = from_compact l (q * half_plane l + j) in
    let k = steps_on l i d r in
    let below = site-below l q j w in
    let within = steps-below l i d r w.lawful below h in
    let F = λ (n : ℕ). is_set (word_at l first n) b in
    let S = λ (n : ℕ). is_set (word_at l second n) b in
    let mine = ap (λ ws. is_set (get_or ws j 0) b) o ∙ ap (λ v. is_set v b) (own-word l q j first w) in
    let yours = ap (λ ws. is_set (get_or ws j 0) b) p ∙ ap (λ v. is_set v b) (own-word l q j second w) in
    let there = on ∙ ap₂ (λ v u. agree (is_set v b) (is_set u b)) (sym (word-on l q j d r first w h far)) (sym (word-on l q j d r second w h far)) in
    let xor = is_set-xor (bit_xor (get_or own j 0) (get_or other j 0)) (get_or ahead j 0) b
    ∙ ap (λ t. differs t (is_set (get_or ahead j 0) b)) (is_set-xor (get_or own j 0) (get_or other j 0) b) in
    let read = xor ∙ ap₂ (λ s t. differs (differs s t) (is_set (get_or ahead j 0) b)) mine yours ∙ ap (differs (differs (F i) (S i))) there ∙ both (F i) (S i) (F k) (S k) in
    let first_here = get_or-table F (volume l) i false below in
    let second_here = get_or-table S (volume l) i false below in
    let first_there = get_or-table F (volume l) k false within in
    let second_there = get_or-table S (volume l) k false within in
    read ∙ sym (ap₂ agree (ap₂ agree first_here second_here) (ap₂ agree first_there second_there))

-- a plane more
pub plane-counted : (l q d r b : ℕ) (first second : List Plane) (own other ahead : List ℕ) → IsLawfulSize l → q < 2 * l → d < 3 → r ≤ l / 2
    → own ≡ (plane_at first q).words → other ≡ (plane_at second q).words
    → ((j : ℕ) → j < half_plane l → is_set (get_or ahead j 0) b
    ≡ agree (is_set (get_or (plane_at first (plane_on l q d r)).words (place_on l q d r j) 0) b) (is_set (get_or (plane_at second (plane_on l q d r)).words (place_on l q d r j) 0) b))
    → line_from l (spins_of l b first) (spins_of l b second) d r ((q + 1) * half_plane l)
    ≡ line_from l (spins_of l b first) (spins_of l b second) d r (q * half_plane l) + set_below (mixed own other ahead) b (half_plane l)
unfolding line_from
plane-counted l q d r b first second own other ahead lawful below h far o p on =
    let more = add-mul q 1 (half_plane l) in
    let place : (q + 1) * half_plane l ≡ q * half_plane l + half_plane l = omega arith in
    let f = spins_of l b first in
    let s = spins_of l b second in
    let test = λ (n : ℕ). term f s (from_compact l n) (steps_on l (from_compact l n) d r) in
    let each = count-same (λ j. is_set (mixed own other ahead j) b) (λ j. test (q * half_plane l + j)) (half_plane l)
    (λ j k. term-at l q j d r b first second own other ahead (record { lawful = lawful; plane = below; place = k }) h far o p (on j k)) in
    ap (count_below test) place ∙ count-add test (q * half_plane l) (half_plane l) ∙ ap (λ n. count_below test (q * half_plane l) + n) (sym each)

pub line-le : (l : ℕ) (f s : List Bool) (d r n : ℕ) → line_from l f s d r n ≤ n
unfolding line_from
line-le l f s d r n = count-most _ n

pub line-zero : (l : ℕ) (f s : List Bool) (d r : ℕ) → line_from l f s d r 0 ≡ 0
unfolding line_from count_below
line-zero l f s d r = refl

-- ---- all places

-- these are all sites
pub all-sites : (l : ℕ) (f s : List Bool) (d r : ℕ) → IsLawfulSize l → line_from l f s d r (2 * l * half_plane l) ≡ agreeing_line l f s d r
unfolding line_from
all-sites l f s d r lawful =
    let test = λ (i : ℕ). term f s i (steps_on l i d r) in
    rw (places-all l lawful)
    (count-sum (λ p. test (from_compact l p)) (volume l)
    ∙ sum-permuted (λ i. one_if (test i)) (from_compact l) (compact l) (volume l) (compact-order l lawful)
    ∙ sym (count-sum test (volume l)))

pub sites-le : (l : ℕ) (f s : List Bool) (d r : ℕ) → agreeing_line l f s d r ≤ volume l
sites-le l f s d r = count-most _ (volume l)

-- ---- all bonds

one-step : (l i d : ℕ) → forward l i d ≡ steps_on l i d 1
unfolding steps_on
one-step l i d = refl

-- the bonds are the pairs of sites one step apart, in three directions
pub bonds-are-lines : (l : ℕ) (f s : List Bool) → agreeing_bonds l f s ≡ agreeing_line l f s 0 1 + agreeing_line l f s 1 1 + agreeing_line l f s 2 1
bonds-are-lines l f s =
    let test = λ (n : ℕ). term f s (n / 3) (forward l (n / 3) (n % 3)) in
    let h = λ (n : ℕ). one_if (test n) in
    let line = λ (d i : ℕ). one_if (term f s i (steps_on l i d 1)) in
    let at : (n i d : ℕ) → n / 3 ≡ i → n % 3 ≡ d → h n ≡ line d i = λ n i d e m. ap₂ (λ k v. one_if (term f s k (forward l k v))) e m ∙ ap (λ k. one_if (term f s i k)) (one-step l i d) in
    let all = count-sum test (bond_count l) in
    let thirds = sum-thirds h (volume l) in
    let x = sum-same (λ i. h (3 * i)) (line 0) (volume l) (λ i _. at (3 * i) i 0 (omega arith) (omega arith)) in
    let y = sum-same (λ i. h (suc (3 * i))) (line 1) (volume l) (λ i _. at (suc (3 * i)) i 1 (omega arith) (omega arith)) in
    let z = sum-same (λ i. h (suc (suc (3 * i)))) (line 2) (volume l) (λ i _. at (suc (suc (3 * i))) i 2 (omega arith) (omega arith)) in
    let first = count-sum (λ i. term f s i (steps_on l i 0 1)) (volume l) in
    let second = count-sum (λ i. term f s i (steps_on l i 1 1)) (volume l) in
    let third = count-sum (λ i. term f s i (steps_on l i 2 1)) (volume l) in
    omega (arith, all, thirds, x, y, z, first, second, third)
