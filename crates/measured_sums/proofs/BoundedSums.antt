-- Bounds of sums over a field whose values are at most 1.
use Rattle.std.proofs.Common.{inl, inr, ◌≡◌, ℕ, zero, suc, ◌+◌, ◌*◌, ◌%◌, ◌<◌, ◌≤◌, Bool, true, false, cond, ◌==◌, List, ℤ, pos, neg_ℤ, nat_abs, ◌+ℤ◌, ◌*ℤ◌, ap, sym, ◌∙◌, arith}
use Rattle.std.proofs.lemmas.Int.{ints}
use Rattle.std.proofs.lemmas.Nat.{mul-le}
use Rattle.std.proofs.Math.Nat.{add-mul, mul-add, mod-lt}
use borrow.Author.Differences.{up, down}
use Rattle.spin_model.specs.Words.{one_if}
use Rattle.spin_model.specs.Steps.{count_below}
use Rattle.spin_model.specs.SignedSums.{sum_of}
use Rattle.spin_model.specs.Lattice.{volume}
use Rattle.scalar_rule.specs.Neighbours.{spin, agree}
use Rattle.measured_sums.specs.OverlapField.{Field, link_overlap, site_overlap, steps_ahead}
use Rattle.measured_sums.specs.PlaneFamilies.{Family, plane_of, plane_sum}
use Rattle.measured_sums.specs.PlaneCorrelations.{plane_correlation}
use Rattle.measured_sums.proofs.Planes.{absolute}
use Rattle.measured_sums.proofs.PlaneSizes.{planes-equal}

sign-bound : (b : Bool) → nat_abs (cond b (pos 1) (neg_ℤ (pos 1))) ≤ 1
sign-bound true = omega arith
sign-bound false = omega arith

pub overlap-bound : (first second : List Bool) (i : ℕ) → nat_abs (site_overlap first second i) ≤ 1
overlap-bound first second i = sign-bound (agree (spin first i) (spin second i))

pub abs-sum : (a b : ℤ) → nat_abs (a +ℤ b) ≤ nat_abs a + nat_abs b
abs-sum a b =
    let one = (absolute a).0 in
    let other = (absolute b).0 in
    let both = absolute (a +ℤ b) in
    let all = both.0 in
    let whole : up (a +ℤ b) + down a + down b ≡ down (a +ℤ b) + up a + up b = omega (arith, ints) in
    elim (both.1) [
      | inl none ↦ omega arith
      | inr none ↦ omega arith
    ]

pub abs-product : (a b : ℤ) → nat_abs (a *ℤ b) ≡ nat_abs a * nat_abs b
abs-product a b =
    let one = (absolute a).0 in
    let other = (absolute b).0 in
    let all = (absolute (a *ℤ b)).0 in
    let parts : up (a *ℤ b) + down (a *ℤ b) ≡ up a * up b + down a * down b + (up a * down b + down a * up b) = omega (arith, ints) in
    let spread = add-mul (up a) (down a) (up b + down b) in
    let first = mul-add (up a) (up b) (down b) in
    let second = mul-add (down a) (up b) (down b) in
    all ∙ parts ∙ (let same : up a * up b + down a * down b + (up a * down b + down a * up b) ≡ (up a + down a) * (up b + down b) = omega arith in same)
    ∙ ap (λ n. n * (up b + down b)) (sym one) ∙ ap (λ n. nat_abs a * n) (sym other)

pub sum-bound : (f : ℕ → ℤ) (b n : ℕ) → ((i : ℕ) → i < n → nat_abs (f i) ≤ b) → nat_abs (sum_of f n) ≤ n * b
unfolding sum_of
sum-bound f b zero each = omega arith
sum-bound f b (suc n) each =
    let before = sum-bound f b n (λ i below. each i (omega arith)) in
    let last = each n (omega arith) in
    let both = abs-sum (sum_of f n) (f n) in
    let more : suc n * b ≡ n * b + b = omega arith in
    omega arith

term-bound : (b : Bool) (z : ℤ) → nat_abs z ≤ 1 → nat_abs (cond b z (pos 0)) ≤ one_if b
term-bound true z most = most
term-bound false z most = omega arith

masked-bound : (test : ℕ → Bool) (q : Field) (n : ℕ) → ((i : ℕ) → nat_abs (q i) ≤ 1) → nat_abs (sum_of (λ i. cond (test i) (q i) (pos 0)) n) ≤ count_below test n
unfolding sum_of count_below
masked-bound test q zero each = omega arith
masked-bound test q (suc n) each =
    let before = masked-bound test q n each in
    let last = term-bound (test n) (q n) (each n) in
    let both = abs-sum (sum_of (λ i. cond (test i) (q i) (pos 0)) n) (cond (test n) (q n) (pos 0)) in
    omega arith

pub plane-bound : (l : ℕ) (q : Field) (family : Family) (m : ℕ) → ((i : ℕ) → nat_abs (q i) ≤ 1) → m < l → nat_abs (plane_sum l q family m) ≤ l * l
plane-bound l q family m each below =
    let most = masked-bound (λ i. plane_of l family i == m) q (volume l) each in
    let sites = planes-equal l family m below in
    omega arith

pub correlation-bound : (l : ℕ) (q : Field) (family : Family) (r : ℕ) → ((i : ℕ) → nat_abs (q i) ≤ 1) → nat_abs (plane_correlation l q family r) ≤ l * (l * l * (l * l))
correlation-bound l q family r each = sum-bound (λ m. plane_sum l q family m *ℤ plane_sum l q family ((m + r) % l)) (l * l * (l * l)) l (λ m below.
    let here = plane-bound l q family m each below in
    let there = plane-bound l q family ((m + r) % l) each (mod-lt (m + r) (omega arith)) in
    let product = abs-product (plane_sum l q family m) (plane_sum l q family ((m + r) % l)) in
    let most = mul-le (nat_abs (plane_sum l q family m)) (nat_abs (plane_sum l q family ((m + r) % l))) (l * l) (l * l) here there in
    omega arith)

pub link-bound : (l : ℕ) (q : Field) → ((i : ℕ) → nat_abs (q i) ≤ 1) → nat_abs (link_overlap l q) ≤ 3 * volume l
link-bound l q each = sum-bound (λ d. sum_of (λ i. q i *ℤ q (steps_ahead l i d 1)) (volume l)) (volume l) 3 (λ d _.
    let row = sum-bound (λ i. q i *ℤ q (steps_ahead l i d 1)) 1 (volume l) (λ i _.
    let product = abs-product (q i) (q (steps_ahead l i d 1)) in
    let most = mul-le (nat_abs (q i)) (nat_abs (q (steps_ahead l i d 1))) 1 1 (each i) (each (steps_ahead l i d 1)) in
    omega arith) in
    omega arith)
