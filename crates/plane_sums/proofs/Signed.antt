-- Signed numbers by sample, their ranges, and sums of products.
use Rattle.std.specs.Int.{w128}
use Rattle.std.proofs.Common.{inl, inr, ◌≡◌, ℕ, ◌+◌, ◌%◌, ◌^◌, ◌<◌, ◌≤◌, List, length, set, ℤ, pos, nat_abs, ◌+ℤ◌, ◌*ℤ◌, FitsSigned, w16, w32, w64, add-one, replicate, refl, ◌∙◌, arith}
use Rattle.std.proofs.lemmas.Bool.{cases_lt}
use Rattle.std.proofs.lemmas.Int.{fits_signed_from_abs}
use Rattle.std.proofs.lemmas.List.{get_or-set_same, get_or-set_other, get_or-replicate, get_or_past, length-replicate}
use Rattle.std.proofs.lemmas.Nat.{mod_below, mul-le}
use Rattle.spin_model.specs.SignedSums.{sum_of}
use Rattle.measured_sums.proofs.BoundedSums.{abs-product, abs-sum, sum-bound}
use Rattle.plane_sums.specs.Correlations.{product_sum, signed_at}
use Rattle.plane_sums.specs.Rooms.{number_in}

-- a sample more is written
pub samples-more : (now : List ℤ) (at : ℕ) (x : ℤ) (value : ℕ → ℤ) → at < length now → ((b : ℕ) → b < at → signed_at now b ≡ value b) → x ≡ value at
    → (b : ℕ) → b < at + 1 → signed_at (set now at x) b ≡ value b
samples-more now at x value within before own b below = elim (cases_lt b at) [
  | inl less ↦ get_or-set_other now at b x (pos 0) (λ e. omega (arith, e, less)) ∙ before b less
  | inr not ↦
      let here : b ≡ at = omega arith in
      rw here (get_or-set_same now at x (pos 0) within ∙ own)
]

pub samples-kept : (now : List ℤ) (at : ℕ) (x : ℤ) (b : ℕ) → at + 1 ≤ b → signed_at (set now at x) b ≡ signed_at now b
samples-kept now at x b past = get_or-set_other now at b x (pos 0) (λ e. omega (arith, e, past))

-- numbers that fit
pub fits-32 : (z : ℤ) → nat_abs z < 2 ^ 31 → FitsSigned w32 z
fits-32 z small = fits_signed_from_abs w32 z small

pub fits-64 : (z : ℤ) → nat_abs z < 2 ^ 63 → FitsSigned w64 z
fits-64 z small = fits_signed_from_abs w64 z small

pub product-small : (a b : ℤ) → nat_abs a ≤ 4096 → nat_abs b ≤ 4096 → nat_abs (a *ℤ b) ≤ 2 ^ 24
product-small a b first second = rw (abs-product a b) (mul-le (nat_abs a) (nat_abs b) 4096 4096 first second)

pub sum-small : (a b : ℤ) (n m : ℕ) → nat_abs a ≤ n → nat_abs b ≤ m → nat_abs (a +ℤ b) ≤ n + m
sum-small a b n m first second = omega (arith, abs-sum a b)

-- term by term
pub signed-more : (f : ℕ → ℤ) (n : ℕ) → sum_of f (n + 1) ≡ sum_of f n +ℤ f n
unfolding sum_of
signed-more f n = rw add-one refl

pub signed-none : (f : ℕ → ℤ) → sum_of f 0 ≡ pos 0
unfolding sum_of
signed-none f = refl

pub fits-16 : (z : ℤ) → nat_abs z ≤ 4096 → FitsSigned w16 z
fits-16 z small = fits_signed_from_abs w16 z (omega (arith, small))

pub signed-zeros : (n b : ℕ) → signed_at (replicate n (pos 0)) b ≡ pos 0
signed-zeros n b = elim (cases_lt b n) [
  | inl below ↦ get_or-replicate {A = ℤ} n b (pos 0) (pos 0) below
  | inr past ↦
      let long : length (replicate {A = ℤ} n (pos 0)) ≡ n = length-replicate {A = ℤ} n (pos 0) in
      get_or_past (replicate {A = ℤ} n (pos 0)) b (pos 0) (omega (arith, long))
]

pub product-bound : (l : ℕ) (numbers : List (List (List ℤ))) (f r b : ℕ) → (0 < l) × (l ≤ 64)
    → ((m : ℕ) → m < l → nat_abs (number_in numbers f m b) ≤ 4096) → nat_abs (product_sum l numbers f r b) ≤ 2 ^ 30
product-bound l numbers f r b side small =
    let some = side.0 in
    let few = side.1 in
    let each = sum-bound (λ m. number_in numbers f m b *ℤ number_in numbers f ((m + r) % l) b) (2 ^ 24) l
    (λ m within. product-small (number_in numbers f m b) (number_in numbers f ((m + r) % l) b) (small m within) (small ((m + r) % l) (mod_below (m + r) l some))) in
    let all = mul-le l (2 ^ 24) 64 (2 ^ 24) few (omega arith) in
    omega (arith, each, all)

pub fits-128 : (z : ℤ) → nat_abs z < 2 ^ 127 → FitsSigned w128 z
fits-128 z small = fits_signed_from_abs w128 z small
