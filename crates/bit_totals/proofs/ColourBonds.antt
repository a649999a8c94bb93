-- Each bond has one end of each colour: the six bonds of each site of one colour are all bonds.
use Rattle.std.proofs.Common.{inl, inr, ◌≡◌, ℕ, zero, suc, ◌+◌, ◌*◌, ◌/◌, ◌%◌, ◌^◌, ◌<◌, ◌≤◌, ◌==◌, Bool, true, false, not, cond, List, refl, ap, sym, ◌∙◌, arith}
use Rattle.std.proofs.Math.Nat.{mul_assoc}
use Rattle.std.proofs.lemmas.Bool.{cases_eq}
use Rattle.std.proofs.lemmas.List.Sums.{count_by-le-length}
use Rattle.std.proofs.lemmas.Nat.{div-add-mod', div_below, mod_below}
use Rattle.spin_model.specs.Couplings.{Bonds}
use Rattle.spin_model.specs.Lattice.{IsLawfulSize, volume, bond, bond_count, forward, backward, colour, half_plane, half_volume, compact, from_compact}
use Rattle.spin_model.specs.Words.{one_if}
use Rattle.spin_model.proofs.Colours.{colour-backward}
use Rattle.spin_model.proofs.CompactOrder.{in_plane}
use Rattle.spin_model.proofs.Counts.{count-most}
use Rattle.spin_model.proofs.Sites.{volume-bound}
use Rattle.scalar_rule.specs.Neighbours.{spin, coupled, agree, ahead, behind, pull, neighbours}
use Rattle.scalar_rule.specs.Positions.{sum_below}
use Rattle.scalar_rule.specs.Sums.{is_unsatisfied, unsatisfied}
use Rattle.scalar_rule.proofs.Extremes.{sum-same, sum-most}
use Rattle.scalar_rule.proofs.FiniteSums.{ArePermutation, count-sum, sum-add, sum-permuted, sum-thirds}
use Rattle.scalar_rule.proofs.Shifts.{shift-x, shift-y, shift-z}
use Rattle.plane_sweep.proofs.PlaneNeighbours.{site_of-at}
use Rattle.bit_totals.specs.Counted.{unsatisfied_at, unsatisfied_from}
use Rattle.bit_totals.proofs.PlaceCounts.{compact-order, places-all}

-- a sum, and then that of the terms behind it
pub sum-behind : (f : ℕ → ℕ) (n m : ℕ) → sum_below f (n + m) ≡ sum_below f n + sum_below (λ j. f (n + j)) m
unfolding sum_below
sum-behind f n zero = let same : n + 0 ≡ n = omega arith in ap (sum_below f) same ∙ omega arith
sum-behind f n (suc m) =
    let before = sum-behind f n m in
    let place : n + suc m ≡ suc (n + m) = omega arith in
    let last : sum_below f (suc (n + m)) ≡ sum_below f (n + m) + f (n + m) = refl in
    ap (sum_below f) place ∙ last ∙ omega arith

sum-none : (f : ℕ → ℕ) (n : ℕ) → ((t : ℕ) → t < n → f t ≡ 0) → sum_below f n ≡ 0
unfolding sum_below
sum-none f zero none = refl
sum-none f (suc n) none =
    let before = sum-none f n (λ t below. none t (omega arith)) in
    let last = none n (omega arith) in
    omega arith

-- J s s' doesn't tell the two spins apart
turned : (n s t : Bool) → agree (coupled n s) t ≡ agree (coupled n t) s
turned true true true = refl
turned true true false = refl
turned true false true = refl
turned true false false = refl
turned false true true = refl
turned false true false = refl
turned false false true = refl
turned false false false = refl

-- whether the bond ahead of a site is unsatisfied, as a number
abbrev pub one_ahead : ℕ → Bonds → List Bool → ℕ → ℕ → ℕ
one_ahead l bonds spins d i = one_if (is_unsatisfied l bonds spins (bond i d))

-- one step on and one step back undo each other
shifted : (l d : ℕ) → IsLawfulSize l → d < 3 → ArePermutation (λ i. forward l i d) (λ i. backward l i d) (volume l)
shifted l zero lawful h = shift-x l (omega (arith, lawful.0))
shifted l (suc zero) lawful h = shift-y l (omega (arith, lawful.0))
shifted l (suc (suc zero)) lawful h = shift-z l (omega (arith, lawful.0))
shifted l (suc (suc (suc d))) lawful h = absurd (omega arith)

bond-ahead : (l : ℕ) (bonds : Bonds) (spins : List Bool) (i d : ℕ) → d < 3
    → one_if (not (agree (pull bonds spins (ahead l i d)) (spin spins i))) ≡ one_ahead l bonds spins d i
bond-ahead l bonds spins i d h =
    let site : bond i d / 3 ≡ i = omega arith in
    let direction : bond i d % 3 ≡ d = omega arith in
    rw (site, direction) refl

bond-behind : (l : ℕ) (bonds : Bonds) (spins : List Bool) (i d : ℕ) → IsLawfulSize l → i < volume l → d < 3
    → one_if (not (agree (pull bonds spins (behind l i d)) (spin spins i))) ≡ one_ahead l bonds spins d (backward l i d)
bond-behind l bonds spins i d lawful below h =
    let j = backward l i d in
    let site : bond j d / 3 ≡ j = omega arith in
    let direction : bond j d % 3 ≡ d = omega arith in
    let back : forward l j d ≡ i = (shifted l d lawful h).redone i below in
    ap (λ t. one_if (not t)) (turned (bonds (bond j d)) (spin spins j) (spin spins i)) ∙ rw (site, direction, back) refl

-- the six bonds of a site: the three ahead of it, and the one ahead of each site a step back
six-bonds : (l : ℕ) (bonds : Bonds) (spins : List Bool) (i : ℕ) → IsLawfulSize l → i < volume l
    → unsatisfied_at l bonds spins i
    ≡ one_ahead l bonds spins 0 i + one_ahead l bonds spins 0 (backward l i 0) + (one_ahead l bonds spins 1 i + one_ahead l bonds spins 1 (backward l i 1))
    + (one_ahead l bonds spins 2 i + one_ahead l bonds spins 2 (backward l i 2))
unfolding unsatisfied_at
six-bonds l bonds spins i lawful below =
    omega (
      arith,
      bond-ahead l bonds spins i 0 (omega arith),
      bond-ahead l bonds spins i 1 (omega arith),
      bond-ahead l bonds spins i 2 (omega arith),
      bond-behind l bonds spins i 0 lawful below (omega arith),
      bond-behind l bonds spins i 1 lawful below (omega arith),
      bond-behind l bonds spins i 2 lawful below (omega arith),
    )

-- a number is taken at one of two colours
either : (t : Bool) (x : ℕ) → cond t x 0 + cond t 0 x ≡ x
either true x = omega arith
either false x = omega arith

both-ends : (a e c x y : ℕ) → e + a ≡ 1 → c < 2 → cond (a == c) (x + y) 0 ≡ cond (a == c) x 0 + cond (e == c) 0 y
both-ends a e zero x y one chosen = elim (cases_eq a 0) [
  | inl first ↦
      let other : e ≡ 1 = omega arith in
      rw (first, other) refl
  | inr not ↦
      let second : a ≡ 1 = omega arith in
      let other : e ≡ 0 = omega arith in
      rw (second, other) refl
]
both-ends a e (suc zero) x y one chosen = elim (cases_eq a 0) [
  | inl first ↦
      let other : e ≡ 1 = omega arith in
      rw (first, other) refl
  | inr not ↦
      let second : a ≡ 1 = omega arith in
      let other : e ≡ 0 = omega arith in
      rw (second, other) refl
]
both-ends a e (suc (suc c)) x y one chosen = absurd (omega arith)

-- in one direction the sites of a colour have all bonds, ahead or behind
one-direction : (l : ℕ) (bonds : Bonds) (spins : List Bool) (c d : ℕ) → IsLawfulSize l → c < 2 → d < 3
    → sum_below (λ i. cond (colour l i == c) (one_ahead l bonds spins d i + one_ahead l bonds spins d (backward l i d)) 0) (volume l) ≡ sum_below (one_ahead l bonds spins d) (volume l)
one-direction l bonds spins c d lawful chosen h =
    let v = volume l in
    let f = one_ahead l bonds spins d in
    let first = λ (i : ℕ). cond (colour l i == c) (f i) 0 in
    let second = λ (i : ℕ). cond (colour l i == c) 0 (f i) in
    let shift = shifted l d lawful h in
    let back : ArePermutation (λ i. backward l i d) (λ i. forward l i d) v = record { on = shift.back; back = shift.on; undone = shift.redone; redone = shift.undone } in
    sum-same (λ i. cond (colour l i == c) (f i + f (backward l i d)) 0) (λ i. first i + second (backward l i d)) v
    (λ i below. both-ends (colour l i) (colour l (backward l i d)) c (f i) (f (backward l i d)) (colour-backward l i d lawful below) chosen)
    ∙ sum-add first (λ i. second (backward l i d)) v
    ∙ ap (λ n. sum_below first v + n) (sum-permuted second (λ i. backward l i d) (λ i. forward l i d) v back)
    ∙ sym (sum-add first second v)
    ∙ sum-same (λ i. first i + second i) f v (λ i below. either (colour l i == c) (f i))

spread : (t : Bool) (x y z : ℕ) → cond t (x + y + z) 0 ≡ cond t x 0 + cond t y 0 + cond t z 0
spread true x y z = refl
spread false x y z = refl

-- over all three directions
colour-bonds : (l : ℕ) (bonds : Bonds) (spins : List Bool) (c : ℕ) → IsLawfulSize l → c < 2
    → sum_below (λ i. cond (colour l i == c) (unsatisfied_at l bonds spins i) 0) (volume l) ≡ unsatisfied l bonds spins
colour-bonds l bonds spins c lawful chosen =
    let v = volume l in
    let f = one_ahead l bonds spins in
    let part = λ (d i : ℕ). cond (colour l i == c) (f d i + f d (backward l i d)) 0 in
    let test = λ (n : ℕ). one_if (is_unsatisfied l bonds spins n) in
    let sites =
    sum-same (λ i. cond (colour l i == c) (unsatisfied_at l bonds spins i) 0) (λ i. part 0 i + part 1 i + part 2 i) v
    (λ i below. ap (λ n. cond (colour l i == c) n 0) (six-bonds l bonds spins i lawful below) ∙ spread (colour l i == c) (f 0 i + f 0 (backward l i 0)) (f 1 i + f 1 (backward l i 1)) (f 2 i + f 2 (backward l i 2)))
    in
    let parts = sum-add (λ i. part 0 i + part 1 i) (part 2) v in
    let more = sum-add (part 0) (part 1) v in
    let x = one-direction l bonds spins c 0 lawful chosen (omega arith) in
    let y = one-direction l bonds spins c 1 lawful chosen (omega arith) in
    let z = one-direction l bonds spins c 2 lawful chosen (omega arith) in
    let thirds = sum-thirds test v in
    let all = count-sum (is_unsatisfied l bonds spins) (bond_count l) in
    let first = sum-same (f 0) (λ i. test (3 * i)) v (λ i _. let e : bond i 0 ≡ 3 * i = omega arith in ap test e) in
    let second = sum-same (f 1) (λ i. test (suc (3 * i))) v (λ i _. let e : bond i 1 ≡ suc (3 * i) = omega arith in ap test e) in
    let third = sum-same (f 2) (λ i. test (suc (suc (3 * i)))) v (λ i _. let e : bond i 2 ≡ suc (suc (3 * i)) = omega arith in ap test e) in
    sites ∙ omega arith

-- the colour of a place in the order of one colour
place-colour : (l c p : ℕ) → IsLawfulSize l → c < 2 → p < half_volume l → colour l (from_compact l (c * half_volume l + p)) ≡ c
place-colour l c p lawful chosen below =
    let some : 0 < half_plane l = omega (arith, in_plane l 0 0 (omega (arith, lawful.0)) (omega (arith, lawful.0))) in
    let z : p / half_plane l < l = div_below p (half_plane l) l some below in
    let j : p % half_plane l < half_plane l = mod_below p (half_plane l) some in
    let parts = div-add-mod' p (half_plane l) in
    let place : c * half_volume l + p ≡ c * half_volume l + p / half_plane l * half_plane l + p % half_plane l = omega arith in
    ap (λ n. colour l (from_compact l n)) place ∙ (site_of-at l c (p / half_plane l) (p % half_plane l) lawful chosen z j).of_colour

sum-chosen : (t : Bool) (f : ℕ → ℕ) (n : ℕ) → sum_below (λ p. cond t (f p) 0) n ≡ cond t (sum_below f n) 0
sum-chosen true f n = refl
sum-chosen false f n = sum-none (λ p. 0) n (λ t below. refl)

-- each half of the compact order is one colour
half-chosen : (f : ℕ → ℕ) (l c e : ℕ) → IsLawfulSize l → e < 2
    → sum_below (λ p. cond (colour l (from_compact l (e * half_volume l + p)) == c) (f (from_compact l (e * half_volume l + p))) 0) (half_volume l)
    ≡ cond (e == c) (sum_below (λ p. f (from_compact l (e * half_volume l + p))) (half_volume l)) 0
half-chosen f l c e lawful known =
    let h = half_volume l in
    let at = λ (p : ℕ). f (from_compact l (e * h + p)) in
    sum-same (λ p. cond (colour l (from_compact l (e * h + p)) == c) (at p) 0) (λ p. cond (e == c) (at p) 0) h (λ p below. ap (λ n. cond (n == c) (at p) 0) (place-colour l e p lawful known below))
    ∙ sum-chosen (e == c) at h

one-half : (sums : ℕ → ℕ) (c : ℕ) → c < 2 → cond (0 == c) (sums 0) 0 + cond (1 == c) (sums 1) 0 ≡ sums c
one-half sums zero chosen = omega arith
one-half sums (suc zero) chosen = omega arith
one-half sums (suc (suc c)) chosen = absurd (omega arith)

-- the sites of a colour are those at its places
colour-half : (f : ℕ → ℕ) (l c : ℕ) → IsLawfulSize l → c < 2 → sum_below (λ p. f (from_compact l (c * half_volume l + p))) (half_volume l) ≡ sum_below (λ i. cond (colour l i == c) (f i) 0) (volume l)
colour-half f l c lawful chosen =
    let h = half_volume l in
    let g = λ (i : ℕ). cond (colour l i == c) (f i) 0 in
    let sums = λ (e : ℕ). sum_below (λ p. f (from_compact l (e * h + p))) h in
    let whole : h + h ≡ volume l = omega (arith, places-all l lawful, twice) in
    let front = sum-same (λ p. g (from_compact l p)) (λ p. g (from_compact l (0 * h + p))) h (λ p below.
    let place : p ≡ 0 * h + p = omega arith in
    ap (λ n. g (from_compact l n)) place) in
    let back = sum-same (λ p. g (from_compact l (h + p))) (λ p. g (from_compact l (1 * h + p))) h (λ p below.
    let place : h + p ≡ 1 * h + p = omega arith in
    ap (λ n. g (from_compact l n)) place) in
    let first = half-chosen f l c 0 lawful (omega arith) in
    let second = half-chosen f l c 1 lawful (omega arith) in
    let cut = sum-behind (λ p. g (from_compact l p)) h h in
    let permuted = sum-permuted g (from_compact l) (compact l) (volume l) (compact-order l lawful) in
    let all = ap (sum_below (λ p. g (from_compact l p))) whole in
    sym (one-half sums c chosen) ∙ omega arith ∙ permuted
  where
    twice : 2 * l * half_plane l ≡ half_volume l + half_volume l
    twice = mul_assoc 2 l (half_plane l) ∙ omega arith

-- the bonds of the sites of a colour are all bonds
pub all-bonds : (l : ℕ) (bonds : Bonds) (spins : List Bool) (c : ℕ) → IsLawfulSize l → c < 2 → unsatisfied_from l bonds spins c (l * half_plane l) ≡ unsatisfied l bonds spins
unfolding unsatisfied_from
all-bonds l bonds spins c lawful chosen = colour-half (unsatisfied_at l bonds spins) l c lawful chosen ∙ colour-bonds l bonds spins c lawful chosen

-- a site has six
unsatisfied-le : (l : ℕ) (bonds : Bonds) (spins : List Bool) (i : ℕ) → unsatisfied_at l bonds spins i ≤ 6
unfolding unsatisfied_at
unsatisfied-le l bonds spins i = count_by-le-length (λ n. not (agree (pull bonds spins n) (spin spins i))) (neighbours l i)

pub from-le : (l : ℕ) (bonds : Bonds) (spins : List Bool) (c n : ℕ) → unsatisfied_from l bonds spins c n ≤ 6 * n
unfolding unsatisfied_from
from-le l bonds spins c n =
    let most = sum-most (λ p. unsatisfied_at l bonds spins (from_compact l (c * half_volume l + p))) n 6 (λ p below. unsatisfied-le l bonds spins (from_compact l (c * half_volume l + p))) in
    omega arith

pub from-none : (l : ℕ) (bonds : Bonds) (spins : List Bool) (c : ℕ) → unsatisfied_from l bonds spins c 0 ≡ 0
unfolding unsatisfied_from sum_below
from-none l bonds spins c = refl

-- a count of the bonds of all sites of a colour is U, and far below what twenty bits hold
counted-of : (l : ℕ) (bonds : Bonds) (spins : List Bool) (c n : ℕ) → IsLawfulSize l → c < 2 → n ≡ unsatisfied_from l bonds spins c (l * half_plane l)
    → (n ≡ unsatisfied l bonds spins) × (n ≤ bond_count l) × (n < 2 ^ 20)
counted-of l bonds spins c n lawful chosen counted =
    let is = counted ∙ all-bonds l bonds spins c lawful chosen in
    let most = count-most (is_unsatisfied l bonds spins) (bond_count l) in
    (is, omega (arith, is, most), omega (arith, is, most, volume-bound l lawful))

pub counted-all : (l : ℕ) (bonds : Bonds) (spins : List Bool) (n : ℕ) → IsLawfulSize l → n ≡ unsatisfied_from l bonds spins 0 (l * half_plane l)
    → (n ≡ unsatisfied l bonds spins) × (n ≤ bond_count l) × (n < 2 ^ 20)
counted-all l bonds spins n lawful counted = counted-of l bonds spins 0 n lawful (omega arith) counted

pub counted-behind : (l : ℕ) (bonds : Bonds) (spins : List Bool) (n : ℕ) → IsLawfulSize l → n ≡ unsatisfied_from l bonds spins 1 (l * half_plane l)
    → (n ≡ unsatisfied l bonds spins) × (n ≤ bond_count l) × (n < 2 ^ 20)
counted-behind l bonds spins n lawful counted = counted-of l bonds spins 1 n lawful (omega arith) counted
