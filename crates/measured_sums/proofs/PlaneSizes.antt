-- Each plane of a family has as many sites as a face of the lattice: sums over all sites as sums over coordinates.
use Rattle.std.proofs.Common.{◌≡◌, ℕ, zero, suc, ◌+◌, ◌-◌, ◌*◌, ◌%◌, ◌<◌, ◌≤◌, cond, ◌==◌, ℤ, pos, ◌+ℤ◌, ap, ap₂, sym, ◌∙◌, arith}
use Rattle.std.proofs.lemmas.Int.{ints}
use Rattle.std.proofs.lemmas.Bool.Decides.{nat_tests}
use Rattle.std.proofs.Math.Nat.{mul_assoc}
use Rattle.spin_model.specs.Steps.{count_below}
use Rattle.spin_model.specs.SignedSums.{sum_of}
use Rattle.spin_model.specs.Lattice.{volume, site_at, z_of}
use Rattle.spin_model.proofs.Sites.{site_at-planes, x_of-site_at, y_of-site_at, z_of-site_at}
use Rattle.measured_sums.specs.PlaneFamilies.{Family, AlongX, AlongY, AlongZ, SumXY, DifferenceXY, SumXZ, DifferenceXZ, SumYZ, DifferenceYZ, plane_at, plane_of}
use Rattle.measured_sums.proofs.SignedTerms.{terms-same, terms-swap, terms-range, terms-around, term-hit}
use Rattle.measured_sums.proofs.Parts.{ones-counted}

-- ---- sums over coordinates

blocks : (f : ℕ → ℤ) (n m : ℕ) → sum_of f (n * m) ≡ sum_of (λ j. sum_of (λ i. f (j * m + i)) m) n
unfolding sum_of
blocks f zero m = let none : zero * m ≡ 0 = omega arith in ap (sum_of f) none
blocks f (suc n) m =
    let more : suc n * m ≡ n * m + m = omega arith in
    ap (sum_of f) more ∙ terms-range f (n * m) m ∙ ap (λ z. z +ℤ sum_of (λ i. f (n * m + i)) m) (blocks f n m)

pub coordinates : (f : ℕ → ℤ) (l : ℕ) → sum_of f (volume l) ≡ sum_of (λ z. sum_of (λ y. sum_of (λ x. f (site_at l x y z)) l) l) l
coordinates f l =
    ap (sum_of f) (mul_assoc l l l) ∙ blocks f l (l * l)
    ∙ terms-same (λ z. sum_of (λ k. f (z * (l * l) + k)) (l * l)) (λ z. sum_of (λ y. sum_of (λ x. f (site_at l x y z)) l) l) l
    (λ z _. blocks (λ k. f (z * (l * l) + k)) l l
    ∙ terms-same (λ y. sum_of (λ x. f (z * (l * l) + (y * l + x))) l) (λ y. sum_of (λ x. f (site_at l x y z)) l) l
    (λ y _. terms-same (λ x. f (z * (l * l) + (y * l + x))) (λ x. f (site_at l x y z)) l (λ x _. ap f (sym (site_at-planes l x y z)))))

-- ---- one site of each line

constant : (k n : ℕ) → sum_of (λ i. pos k) n ≡ pos (n * k)
unfolding sum_of
constant k zero = let none : 0 ≡ zero * k = omega arith in ap pos none
constant k (suc n) = ap (λ z. z +ℤ pos k) (constant k n) ∙ ap pos (let more : n * k + k ≡ suc n * k = omega arith in more)

all-ones : (h : ℕ → ℕ → ℤ) (l : ℕ) → ((i j : ℕ) → i < l → j < l → h i j ≡ pos 1) → sum_of (λ i. sum_of (h i) l) l ≡ pos (l * l)
all-ones h l each =
    let row : (i : ℕ) → i < l → sum_of (h i) l ≡ pos l = λ i below. terms-same (h i) (λ j. pos 1) l (λ j within. each i j below within) ∙ constant 1 l
    ∙ ap pos (let once : l * 1 ≡ l = omega arith in once) in
    terms-same (λ i. sum_of (h i) l) (λ i. pos l) l row ∙ constant l l

-- along x, along y, along z
lines-x : (g : ℕ → ℕ → ℕ → ℤ) (l : ℕ) → ((y z : ℕ) → y < l → z < l → sum_of (λ x. g x y z) l ≡ pos 1)
    → sum_of (λ z. sum_of (λ y. sum_of (λ x. g x y z) l) l) l ≡ pos (l * l)
lines-x g l each = all-ones (λ z y. sum_of (λ x. g x y z) l) l (λ z y below within. each y z within below)

lines-y : (g : ℕ → ℕ → ℕ → ℤ) (l : ℕ) → ((x z : ℕ) → x < l → z < l → sum_of (λ y. g x y z) l ≡ pos 1)
    → sum_of (λ z. sum_of (λ y. sum_of (λ x. g x y z) l) l) l ≡ pos (l * l)
lines-y g l each =
    terms-same (λ z. sum_of (λ y. sum_of (λ x. g x y z) l) l) (λ z. sum_of (λ x. sum_of (λ y. g x y z) l) l) l (λ z _. terms-swap (λ y x. g x y z) l l)
    ∙ all-ones (λ z x. sum_of (λ y. g x y z) l) l (λ z x below within. each x z within below)

lines-z : (g : ℕ → ℕ → ℕ → ℤ) (l : ℕ) → ((x y : ℕ) → x < l → y < l → sum_of (λ z. g x y z) l ≡ pos 1)
    → sum_of (λ z. sum_of (λ y. sum_of (λ x. g x y z) l) l) l ≡ pos (l * l)
lines-z g l each =
    terms-swap (λ z y. sum_of (λ x. g x y z) l) l l
    ∙ terms-same (λ y. sum_of (λ z. sum_of (λ x. g x y z) l) l) (λ y. sum_of (λ x. sum_of (λ z. g x y z) l) l) l (λ y _. terms-swap (λ z x. g x y z) l l)
    ∙ all-ones (λ y x. sum_of (λ z. g x y z) l) l (λ y x below within. each x y within below)

-- ---- the planes

-- 1 on plane m
abbrev on : ℕ → ℕ → ℤ
on m k = cond (k == m) (pos 1) (pos 0)

turned-test : (k m : ℕ) → (k == m) ≡ (m == k)
turned-test k m = grind (arith, nat_tests)

straight : (l m : ℕ) → m < l → sum_of (on m) l ≡ pos 1
straight l m below = terms-same (on m) (λ k. cond (m == k) (pos 1) (pos 0)) l (λ k _. ap (λ b. cond b (pos 1) (pos 0)) (turned-test k m)) ∙ term-hit (pos 1) m l below

added : (l m r : ℕ) → m < l → r ≤ l → sum_of (λ k. on m ((k + r) % l)) l ≡ pos 1
added l m r below within = terms-around (on m) l r within ∙ straight l m below

taken : (l m r : ℕ) → m < l → r < l → sum_of (λ k. on m ((k + l - r) % l)) l ≡ pos 1
taken l m r below within =
    terms-same (λ k. on m ((k + l - r) % l)) (λ k. on m ((k + (l - r)) % l)) l (λ k _. ap (λ n. on m (n % l)) (let same : k + l - r ≡ k + (l - r) = omega arith in same))
    ∙ added l m (l - r) below (omega arith)

by-coordinates : (l : ℕ) (family : Family) (m : ℕ) → m < l → sum_of (λ z. sum_of (λ y. sum_of (λ x. on m (plane_at l family x y z)) l) l) l ≡ pos (l * l)
by-coordinates l AlongX m below = lines-x (λ x y z. on m x) l (λ y z _ _. straight l m below)
by-coordinates l AlongY m below = lines-y (λ x y z. on m y) l (λ x z _ _. straight l m below)
by-coordinates l AlongZ m below = lines-z (λ x y z. on m z) l (λ x y _ _. straight l m below)
by-coordinates l SumXY m below = lines-x (λ x y z. on m ((x + y) % l)) l (λ y z within _. added l m y below (omega arith))
by-coordinates l DifferenceXY m below = lines-x (λ x y z. on m ((x + l - y) % l)) l (λ y z within _. taken l m y below within)
by-coordinates l SumXZ m below = lines-x (λ x y z. on m ((x + z) % l)) l (λ y z _ within. added l m z below (omega arith))
by-coordinates l DifferenceXZ m below = lines-x (λ x y z. on m ((x + l - z) % l)) l (λ y z _ within. taken l m z below within)
by-coordinates l SumYZ m below = lines-y (λ x y z. on m ((y + z) % l)) l (λ x z _ within. added l m z below (omega arith))
by-coordinates l DifferenceYZ m below = lines-y (λ x y z. on m ((y + l - z) % l)) l (λ x z _ within. taken l m z below within)

pub plane-site : (l : ℕ) (family : Family) (x y z : ℕ) → x < l → y < l → z < l → plane_of l family (site_at l x y z) ≡ plane_at l family x y z
plane-site l family x y z x_within y_within z_within =
    ap₂ (λ a b. plane_at l family a b (z_of l (site_at l x y z))) (x_of-site_at l x y z x_within) (y_of-site_at l x y z x_within y_within)
    ∙ ap (plane_at l family x y) (z_of-site_at l x y z x_within y_within)

one-number : (a b : ℕ) → pos a ≡ pos b → a ≡ b
one-number a b same = omega (arith, ints)

pub planes-equal : (l : ℕ) (family : Family) (m : ℕ) → m < l → count_below (λ i. plane_of l family i == m) (volume l) ≡ l * l
planes-equal l family m below =
    one-number (count_below (λ i. plane_of l family i == m) (volume l)) (l * l)
    (sym (ones-counted (λ i. plane_of l family i == m) (volume l))
    ∙ coordinates (λ i. on m (plane_of l family i)) l
    ∙ terms-same (λ z. sum_of (λ y. sum_of (λ x. on m (plane_of l family (site_at l x y z))) l) l) (λ z. sum_of (λ y. sum_of (λ x. on m (plane_at l family x y z)) l) l) l
    (λ z z_within. terms-same (λ y. sum_of (λ x. on m (plane_of l family (site_at l x y z))) l) (λ y. sum_of (λ x. on m (plane_at l family x y z)) l) l
    (λ y y_within. terms-same (λ x. on m (plane_of l family (site_at l x y z))) (λ x. on m (plane_at l family x y z)) l
    (λ x x_within. ap (on m) (plane-site l family x y z x_within y_within z_within))))
    ∙ by-coordinates l family m below)
