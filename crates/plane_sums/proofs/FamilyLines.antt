-- The sum over a plane of a family is a sum of counts over lines, one line of a projection after the other.
use Rattle.std.proofs.Common.{inl, inr, ◌≡◌, ℕ, zero, suc, ◌+◌, ◌-◌, ◌*◌, ◌%◌, ◌<◌, Bool, true, false, cond, ◌==◌, List, ℤ, pos, neg_ℤ, ◌+ℤ◌, ◌-ℤ◌, refl, ap, sym, ◌∙◌, arith}
use Rattle.std.proofs.lemmas.Bool.{cases_lt}
use Rattle.std.proofs.lemmas.Bool.Decides.{nat_tests}
use Rattle.std.proofs.Math.Nat.{add-mod_right, mod-eq_of_lt}
use Rattle.std.proofs.lemmas.Nat.{mod_below}
use Rattle.spin_model.specs.SignedSums.{sum_of}
use Rattle.spin_model.specs.Lattice.{site_at, volume}
use Rattle.scalar_rule.specs.Positions.{sum_below}
use Rattle.measured_sums.specs.PlaneFamilies.{Family, AlongX, AlongY, AlongZ, SumXY, DifferenceXY, SumXZ, DifferenceXZ, SumYZ, DifferenceYZ, plane_at, plane_of, plane_sum}
use Rattle.std.proofs.lemmas.Int.{ints}
use Rattle.scalar_rule.specs.Neighbours.{spin, agree}
use Rattle.measured_sums.specs.OverlapField.{site_overlap}
use Rattle.measured_sums.proofs.SignedTerms.{terms-same, terms-add, terms-swap, term-hit}
use Rattle.measured_sums.proofs.Parts.{ones-counted}
use Rattle.measured_sums.proofs.PlaneSizes.{coordinates, plane-site, planes-equal}
use Rattle.plane_sums.specs.Lines.{along_x, along_y, along_z, family_count}

-- 1 where a test holds, else 0
abbrev pub ones : (ℕ → Bool) → ℕ → ℤ
ones test i = cond (test i) (pos 1) (pos 0)

-- ---- sums of naturals

naturals : (f : ℕ → ℕ) (n : ℕ) → sum_of (λ o. pos (f o)) n ≡ pos (sum_below f n)
unfolding sum_of sum_below
naturals f zero = refl
naturals f (suc n) = ap (λ z. z +ℤ pos (f n)) (naturals f n)

-- ---- the one place on a line that lies on the plane

moved : (h : ℕ → ℤ) (a i : ℕ) → cond (a == i) (h i) (pos 0) ≡ cond (a == i) (h a) (pos 0)
moved h a i = elim (cases_lt a i) [
  | inl less ↦ let other : (a == i) ≡ false = grind (arith, nat_tests) in rw other refl
  | inr not ↦ elim (cases_lt i a) [
    | inl more ↦ let other : (a == i) ≡ false = grind (arith, nat_tests) in rw other refl
    | inr same ↦ let here : i ≡ a = omega arith in ap (λ j. cond (a == i) (h j) (pos 0)) here
  ]
]

hit : (test : ℕ → Bool) (h : ℕ → ℤ) (a l : ℕ) → a < l → ((i : ℕ) → i < l → test i ≡ (a == i)) → sum_of (λ i. cond (test i) (h i) (pos 0)) l ≡ h a
hit test h a l within same =
    terms-same (λ i. cond (test i) (h i) (pos 0)) (λ i. cond (a == i) (h a) (pos 0)) l
    (λ i below. ap (λ b. cond b (h i) (pos 0)) (same i below) ∙ moved h a i)
    ∙ term-hit (h a) a l within

wrapped : (a j l : ℕ) → a ≡ j + l → j < l → a % l ≡ j
wrapped a j l e below = ap (λ n. n % l) e ∙ add-mod_right j l ∙ mod-eq_of_lt below

straight-at : (k m : ℕ) → (k == m) ≡ (m == k)
straight-at k m = grind (arith, nat_tests)

sum-at : (l k o m : ℕ) → k < l → o < l → m < l → ((k + o) % l == m) ≡ ((l - o + m) % l == k)
sum-at l k o m k_within o_within m_within = elim (cases_lt (k + o) l) [
  | inl small ↦ elim (cases_lt m o) [
    | inl less ↦
        let left : (k + o) % l ≡ k + o = mod-eq_of_lt small in
        let right : (l - o + m) % l ≡ l - o + m = mod-eq_of_lt (omega arith) in
        rw (left, right) (grind (arith, nat_tests))
    | inr not ↦
        let left : (k + o) % l ≡ k + o = mod-eq_of_lt small in
        let right : (l - o + m) % l ≡ m - o = wrapped (l - o + m) (m - o) l (omega arith) (omega arith) in
        rw (left, right) (grind (arith, nat_tests))
  ]
  | inr large ↦ elim (cases_lt m o) [
    | inl less ↦
        let left : (k + o) % l ≡ k + o - l = wrapped (k + o) (k + o - l) l (omega arith) (omega arith) in
        let right : (l - o + m) % l ≡ l - o + m = mod-eq_of_lt (omega arith) in
        rw (left, right) (grind (arith, nat_tests))
    | inr not ↦
        let left : (k + o) % l ≡ k + o - l = wrapped (k + o) (k + o - l) l (omega arith) (omega arith) in
        let right : (l - o + m) % l ≡ m - o = wrapped (l - o + m) (m - o) l (omega arith) (omega arith) in
        rw (left, right) (grind (arith, nat_tests))
  ]
]

difference-at : (l k o m : ℕ) → k < l → o < l → m < l → ((k + l - o) % l == m) ≡ ((o + m) % l == k)
difference-at l k o m k_within o_within m_within = elim (cases_lt k o) [
  | inl less ↦ elim (cases_lt (o + m) l) [
    | inl small ↦
        let left : (k + l - o) % l ≡ k + l - o = mod-eq_of_lt (omega arith) in
        let right : (o + m) % l ≡ o + m = mod-eq_of_lt small in
        rw (left, right) (grind (arith, nat_tests))
    | inr large ↦
        let left : (k + l - o) % l ≡ k + l - o = mod-eq_of_lt (omega arith) in
        let right : (o + m) % l ≡ o + m - l = wrapped (o + m) (o + m - l) l (omega arith) (omega arith) in
        rw (left, right) (grind (arith, nat_tests))
  ]
  | inr not ↦ elim (cases_lt (o + m) l) [
    | inl small ↦
        let left : (k + l - o) % l ≡ k - o = wrapped (k + l - o) (k - o) l (omega arith) (omega arith) in
        let right : (o + m) % l ≡ o + m = mod-eq_of_lt small in
        rw (left, right) (grind (arith, nat_tests))
    | inr large ↦
        let left : (k + l - o) % l ≡ k - o = wrapped (k + l - o) (k - o) l (omega arith) (omega arith) in
        let right : (o + m) % l ≡ o + m - l = wrapped (o + m) (o + m - l) l (omega arith) (omega arith) in
        rw (left, right) (grind (arith, nat_tests))
  ]
]

-- ---- over coordinates

by-coordinates : (l : ℕ) (test : ℕ → Bool) (family : Family) (m : ℕ)
    → plane_sum l (ones test) family m ≡ sum_of (λ z. sum_of (λ y. sum_of (λ x. cond (plane_at l family x y z == m) (ones test (site_at l x y z)) (pos 0)) l) l) l
by-coordinates l test family m =
    coordinates (λ i. cond (plane_of l family i == m) (ones test i) (pos 0)) l
    ∙ terms-same (λ z. sum_of (λ y. sum_of (λ x. cond (plane_of l family (site_at l x y z) == m) (ones test (site_at l x y z)) (pos 0)) l) l) (λ z. sum_of (λ y. sum_of (λ x. cond (plane_at l family x y z == m) (ones test (site_at l x y z)) (pos 0)) l) l) l
    (λ z z_within. terms-same (λ y. sum_of (λ x. cond (plane_of l family (site_at l x y z) == m) (ones test (site_at l x y z)) (pos 0)) l) (λ y. sum_of (λ x. cond (plane_at l family x y z == m) (ones test (site_at l x y z)) (pos 0)) l) l
    (λ y y_within. terms-same (λ x. cond (plane_of l family (site_at l x y z) == m) (ones test (site_at l x y z)) (pos 0)) (λ x. cond (plane_at l family x y z == m) (ones test (site_at l x y z)) (pos 0)) l
    (λ x x_within. ap (λ p. cond (p == m) (ones test (site_at l x y z)) (pos 0)) (plane-site l family x y z x_within y_within z_within))))

-- a plane that meets each line along x of constant z at one place
by-x-of-z : (l : ℕ) (test : ℕ → Bool) (m : ℕ) (p : ℕ → ℕ → ℕ) (at : ℕ → ℕ) → ((z : ℕ) → z < l → at z < l)
    → ((x z : ℕ) → x < l → z < l → (p x z == m) ≡ (at z == x))
    → sum_of (λ z. sum_of (λ y. sum_of (λ x. cond (p x z == m) (ones test (site_at l x y z)) (pos 0)) l) l) l ≡ pos (sum_below (λ z. along_y l test z (at z)) l)
by-x-of-z l test m p at within same =
    terms-same (λ z. sum_of (λ y. sum_of (λ x. cond (p x z == m) (ones test (site_at l x y z)) (pos 0)) l) l) (λ z. pos (along_y l test z (at z))) l
    (λ z below. terms-same (λ y. sum_of (λ x. cond (p x z == m) (ones test (site_at l x y z)) (pos 0)) l) (λ y. ones test (site_at l (at z) y z)) l
    (λ y _. hit (λ x. p x z == m) (λ x. ones test (site_at l x y z)) (at z) l (within z below) (λ x x_within. same x z x_within below))
    ∙ ones-counted (λ y. test (site_at l (at z) y z)) l)
    ∙ naturals (λ z. along_y l test z (at z)) l

by-x-of-y : (l : ℕ) (test : ℕ → Bool) (m : ℕ) (p : ℕ → ℕ → ℕ) (at : ℕ → ℕ) → ((y : ℕ) → y < l → at y < l)
    → ((x y : ℕ) → x < l → y < l → (p x y == m) ≡ (at y == x))
    → sum_of (λ z. sum_of (λ y. sum_of (λ x. cond (p x y == m) (ones test (site_at l x y z)) (pos 0)) l) l) l ≡ pos (sum_below (λ y. along_z l test y (at y)) l)
by-x-of-y l test m p at within same =
    terms-swap (λ z y. sum_of (λ x. cond (p x y == m) (ones test (site_at l x y z)) (pos 0)) l) l l
    ∙ terms-same (λ y. sum_of (λ z. sum_of (λ x. cond (p x y == m) (ones test (site_at l x y z)) (pos 0)) l) l) (λ y. pos (along_z l test y (at y))) l
    (λ y below. terms-same (λ z. sum_of (λ x. cond (p x y == m) (ones test (site_at l x y z)) (pos 0)) l) (λ z. ones test (site_at l (at y) y z)) l
    (λ z _. hit (λ x. p x y == m) (λ x. ones test (site_at l x y z)) (at y) l (within y below) (λ x x_within. same x y x_within below))
    ∙ ones-counted (λ z. test (site_at l (at y) y z)) l)
    ∙ naturals (λ y. along_z l test y (at y)) l

by-y-of-z : (l : ℕ) (test : ℕ → Bool) (m : ℕ) (p : ℕ → ℕ → ℕ) (at : ℕ → ℕ) → ((z : ℕ) → z < l → at z < l)
    → ((y z : ℕ) → y < l → z < l → (p y z == m) ≡ (at z == y))
    → sum_of (λ z. sum_of (λ y. sum_of (λ x. cond (p y z == m) (ones test (site_at l x y z)) (pos 0)) l) l) l ≡ pos (sum_below (λ z. along_x l test z (at z)) l)
by-y-of-z l test m p at within same =
    terms-same (λ z. sum_of (λ y. sum_of (λ x. cond (p y z == m) (ones test (site_at l x y z)) (pos 0)) l) l) (λ z. pos (along_x l test z (at z))) l
    (λ z below. terms-swap (λ y x. cond (p y z == m) (ones test (site_at l x y z)) (pos 0)) l l
    ∙ terms-same (λ x. sum_of (λ y. cond (p y z == m) (ones test (site_at l x y z)) (pos 0)) l) (λ x. ones test (site_at l x (at z) z)) l
    (λ x _. hit (λ y. p y z == m) (λ y. ones test (site_at l x y z)) (at z) l (within z below) (λ y y_within. same y z y_within below))
    ∙ ones-counted (λ x. test (site_at l x (at z) z)) l)
    ∙ naturals (λ z. along_x l test z (at z)) l

-- the planes of constant z, by the lines along y
by-z : (l : ℕ) (test : ℕ → Bool) (m : ℕ) → m < l
    → sum_of (λ z. sum_of (λ y. sum_of (λ x. cond (z == m) (ones test (site_at l x y z)) (pos 0)) l) l) l ≡ pos (sum_below (λ x. along_y l test m x) l)
by-z l test m within =
    terms-same (λ z. sum_of (λ y. sum_of (λ x. cond (z == m) (ones test (site_at l x y z)) (pos 0)) l) l) (λ z. sum_of (λ x. sum_of (λ y. cond (z == m) (ones test (site_at l x y z)) (pos 0)) l) l) l
    (λ z _. terms-swap (λ y x. cond (z == m) (ones test (site_at l x y z)) (pos 0)) l l)
    ∙ terms-swap (λ z x. sum_of (λ y. cond (z == m) (ones test (site_at l x y z)) (pos 0)) l) l l
    ∙ terms-same (λ x. sum_of (λ z. sum_of (λ y. cond (z == m) (ones test (site_at l x y z)) (pos 0)) l) l) (λ x. pos (along_y l test m x)) l
    (λ x _. terms-swap (λ z y. cond (z == m) (ones test (site_at l x y z)) (pos 0)) l l
    ∙ terms-same (λ y. sum_of (λ z. cond (z == m) (ones test (site_at l x y z)) (pos 0)) l) (λ y. ones test (site_at l x y m)) l
    (λ y _. hit (λ z. z == m) (λ z. ones test (site_at l x y z)) m l within (λ z _. straight-at z m))
    ∙ ones-counted (λ y. test (site_at l x y m)) l)
    ∙ naturals (λ x. along_y l test m x) l

-- ---- the families

pub family-lines : (l : ℕ) (test : ℕ → Bool) (family : Family) (m : ℕ) → m < l → plane_sum l (ones test) family m ≡ pos (family_count l test family m)
family-lines l test AlongX m within = by-coordinates l test AlongX m ∙ by-x-of-z l test m (λ x z. x) (λ z. (0 + m) % l) (λ z _. mod_below (0 + m) l (omega arith))
    (λ x z _ _. straight-at x m ∙ ap (λ n. n == x) (sym (let place : 0 + m ≡ m = omega arith in ap (λ n. n % l) place ∙ mod-eq_of_lt within)))
family-lines l test AlongY m within = by-coordinates l test AlongY m ∙ by-y-of-z l test m (λ y z. y) (λ z. (0 + m) % l) (λ z _. mod_below (0 + m) l (omega arith))
    (λ y z _ _. straight-at y m ∙ ap (λ n. n == y) (sym (let place : 0 + m ≡ m = omega arith in ap (λ n. n % l) place ∙ mod-eq_of_lt within)))
family-lines l test AlongZ m within = by-coordinates l test AlongZ m ∙ by-z l test m within
family-lines l test SumXY m within = by-coordinates l test SumXY m ∙ by-x-of-y l test m (λ x y. (x + y) % l) (λ y. (l - y + m) % l) (λ y _. mod_below (l - y + m) l (omega arith)) (λ x y x_within y_within. sum-at l x y m x_within y_within within)
family-lines l test DifferenceXY m within = by-coordinates l test DifferenceXY m ∙ by-x-of-y l test m (λ x y. (x + l - y) % l) (λ y. (y + m) % l) (λ y _. mod_below (y + m) l (omega arith)) (λ x y x_within y_within. difference-at l x y m x_within y_within within)
family-lines l test SumXZ m within = by-coordinates l test SumXZ m ∙ by-x-of-z l test m (λ x z. (x + z) % l) (λ z. (l - z + m) % l) (λ z _. mod_below (l - z + m) l (omega arith)) (λ x z x_within z_within. sum-at l x z m x_within z_within within)
family-lines l test DifferenceXZ m within = by-coordinates l test DifferenceXZ m ∙ by-x-of-z l test m (λ x z. (x + l - z) % l) (λ z. (z + m) % l) (λ z _. mod_below (z + m) l (omega arith)) (λ x z x_within z_within. difference-at l x z m x_within z_within within)
family-lines l test SumYZ m within = by-coordinates l test SumYZ m ∙ by-y-of-z l test m (λ y z. (y + z) % l) (λ z. (l - z + m) % l) (λ z _. mod_below (l - z + m) l (omega arith)) (λ y z y_within z_within. sum-at l y z m y_within z_within within)
family-lines l test DifferenceYZ m within = by-coordinates l test DifferenceYZ m ∙ by-y-of-z l test m (λ y z. (y + l - z) % l) (λ z. (z + m) % l) (λ z _. mod_below (z + m) l (omega arith)) (λ y z y_within z_within. difference-at l y z m y_within z_within within)

-- ---- the overlap

-- +1 and -1 are twice 1 and 0, less 1
both : (on same : Bool) → cond on (cond same (pos 1) (neg_ℤ (pos 1))) (pos 0) +ℤ cond on (pos 1) (pos 0) ≡ cond on (cond same (pos 1) (pos 0)) (pos 0) +ℤ cond on (cond same (pos 1) (pos 0)) (pos 0)
both true true = refl
both true false = refl
both false true = refl
both false false = refl

pub plane-counted : (l : ℕ) (first second : List Bool) (family : Family) (m : ℕ) → m < l
    → pos (2 * family_count l (λ i. agree (spin first i) (spin second i)) family m) -ℤ pos (l * l) ≡ plane_sum l (site_overlap first second) family m
plane-counted l first second family m within =
    let test = λ (i : ℕ). agree (spin first i) (spin second i) in
    let on = λ (i : ℕ). plane_of l family i == m in
    let q = λ (i : ℕ). cond (on i) (site_overlap first second i) (pos 0) in
    let one = λ (i : ℕ). cond (on i) (ones test i) (pos 0) in
    let sites = ones-counted on (volume l) ∙ ap pos (planes-equal l family m within) in
    let each = terms-same (λ i. q i +ℤ cond (on i) (pos 1) (pos 0)) (λ i. one i +ℤ one i) (volume l) (λ i _. both (on i) (test i)) in
    let left = terms-add q (λ i. cond (on i) (pos 1) (pos 0)) (volume l) in
    let right = terms-add one one (volume l) in
    let counted = family-lines l test family m within in
    omega (arith, ints)
