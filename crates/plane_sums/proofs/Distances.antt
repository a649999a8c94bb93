-- Sums over the families in their order are the definitions' sums over axes and diagonals.
use Rattle.std.proofs.Common.{◌≡◌, ℕ, ◌+◌, ◌%◌, ◌<◌, ℤ, List, ◌+ℤ◌, ◌*ℤ◌, ap₂, arith}
use Rattle.std.proofs.lemmas.Int.{ints}
use Rattle.std.proofs.lemmas.Nat.{mod_below}
use Rattle.spin_model.specs.SignedSums.{sum_of}
use Rattle.measured_sums.specs.OverlapField.{Field}
use Rattle.measured_sums.specs.PlaneCorrelations.{axis_correlation, face_correlation, over_families, plane_correlation}
use Rattle.measured_sums.specs.PlaneFamilies.{plane_sum}
use Rattle.measured_sums.proofs.SignedTerms.{terms-same}
use Rattle.plane_sums.specs.Correlations.{product_sum}
use Rattle.plane_sums.specs.Families.{family_at}
use Rattle.plane_sums.specs.Rooms.{number_in}

family-correlated : (l : ℕ) (numbers : List (List (List ℤ))) (b : ℕ) (q : Field) (r f : ℕ) → 0 < l → f < 9
    → ((f m : ℕ) → f < 9 → m < l → number_in numbers f m b ≡ plane_sum l q (family_at f) m)
    → product_sum l numbers f r b ≡ plane_correlation l q (family_at f) r
family-correlated l numbers b q r f some within known =
    terms-same (λ m. number_in numbers f m b *ℤ number_in numbers f ((m + r) % l) b) (λ m. plane_sum l q (family_at f) m *ℤ plane_sum l q (family_at f) ((m + r) % l)) l
    (λ m below. ap₂ (λ u v. u *ℤ v) (known f m within below) (known f ((m + r) % l) within (mod_below (m + r) l some)))

three : (f : ℕ → ℤ) → sum_of f 3 ≡ f 0 +ℤ f 1 +ℤ f 2
unfolding sum_of
three f = omega (arith, ints)

six : (f : ℕ → ℤ) → sum_of f 6 ≡ f 0 +ℤ f 1 +ℤ f 2 +ℤ f 3 +ℤ f 4 +ℤ f 5
unfolding sum_of
six f = omega (arith, ints)

pub axes-correlated : (l : ℕ) (numbers : List (List (List ℤ))) (b : ℕ) (q : Field) (r : ℕ) → 0 < l
    → ((f m : ℕ) → f < 9 → m < l → number_in numbers f m b ≡ plane_sum l q (family_at f) m)
    → sum_of (λ k. product_sum l numbers (0 + k) r b) 3 ≡ axis_correlation l q r
unfolding over_families
axes-correlated l numbers b q r some known =
    let sum = three (λ k. product_sum l numbers (0 + k) r b) in
    let x = family-correlated l numbers b q r 0 some (omega arith) known in
    let y = family-correlated l numbers b q r 1 some (omega arith) known in
    let z = family-correlated l numbers b q r 2 some (omega arith) known in
    omega (arith, ints)

pub faces-correlated : (l : ℕ) (numbers : List (List (List ℤ))) (b : ℕ) (q : Field) (r : ℕ) → 0 < l
    → ((f m : ℕ) → f < 9 → m < l → number_in numbers f m b ≡ plane_sum l q (family_at f) m)
    → sum_of (λ k. product_sum l numbers (3 + k) r b) 6 ≡ face_correlation l q r
unfolding over_families
faces-correlated l numbers b q r some known =
    let sum = six (λ k. product_sum l numbers (3 + k) r b) in
    let c3 = family-correlated l numbers b q r 3 some (omega arith) known in
    let c4 = family-correlated l numbers b q r 4 some (omega arith) known in
    let c5 = family-correlated l numbers b q r 5 some (omega arith) known in
    let c6 = family-correlated l numbers b q r 6 some (omega arith) known in
    let c7 = family-correlated l numbers b q r 7 some (omega arith) known in
    let c8 = family-correlated l numbers b q r 8 some (omega arith) known in
    omega (arith, ints)
