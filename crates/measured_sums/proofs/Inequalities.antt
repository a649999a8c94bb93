-- Inequalities between the sums of one bin: of absolute values, of products and squares, and Cauchy's and Schwarz's.
use Rattle.std.proofs.Common.{inl, inr, ◌≡◌, ℕ, zero, suc, ◌+◌, ◌-◌, ◌*◌, ◌≤◌, Bool, true, false, cond, ℤ, pos, negsuc, nat_abs, ◌+ℤ◌, ◌*ℤ◌, ◌≤ℤ◌, refl, ap₂, subst, sym, arith}
use Rattle.std.proofs.lemmas.Int.{ints}
use Rattle.std.proofs.lemmas.Bool.{cases_lt}
use Rattle.std.proofs.lemmas.Nat.{mul-le}
use Rattle.std.proofs.Math.IntN.{pos-*ℤ-pos, negsuc-*ℤ-negsuc}
use Rattle.std.proofs.Math.Nat.{add-mul, mul-add, mul_comm}
use Rattle.spin_model.specs.Words.{one_if}
use Rattle.spin_model.specs.Steps.{count_below}
use Rattle.spin_model.specs.SignedSums.{sum_of}
use Rattle.scalar_rule.specs.Plan.{Plan}
use Rattle.scalar_rule.specs.Positions.{sum_below}
use Rattle.scalar_rule.specs.Serial.{serial}
use Rattle.scalar_rule.specs.declared.sample.Sample.{Sample}
use Rattle.measured_sums.specs.OverlapField.{total_overlap, link_overlap}
use Rattle.measured_sums.specs.MeasuredSums.{Number, EnergySquares, EnergyProducts, Links, LinkSquares, Overlaps, Magnitudes, OverlapSquares, bin_sum, epochs_in_bin, is_measured, observed, square, sum_from}
use Rattle.measured_sums.proofs.BoundedSums.{abs-sum, abs-product}
use Rattle.measured_sums.proofs.Parts.{number-epochs}

-- ---- two numbers

ordered : (y d : ℕ) → 2 * ((y + d) * y) ≤ (y + d) * (y + d) + y * y
ordered y d =
    let first = add-mul y d y in
    let second = mul-add (y + d) y d in
    let third = add-mul y d d in
    let turned = mul_comm y d in
    omega arith

twice-product : (x y : ℕ) → 2 * (x * y) ≤ x * x + y * y
twice-product x y = elim (cases_lt y x) [
  | inl less ↦ subst (λ n. 2 * (n * y) ≤ n * n + y * y) (let same : y + (x - y) ≡ x = omega arith in same) (ordered y (x - y))
  | inr not ↦
      let other = subst (λ n. 2 * (n * x) ≤ n * n + x * x) (let same : x + (y - x) ≡ y = omega arith in same) (ordered x (y - x)) in
      let turned = mul_comm x y in
      omega arith
]

square-value : (z : ℤ) → square z ≡ pos (nat_abs z * nat_abs z)
square-value (pos n) = pos-*ℤ-pos n n
square-value (negsuc n) = negsuc-*ℤ-negsuc n n

-- ---- naturals

-- those terms that pass
abbrev passed : (ℕ → Bool) → (ℕ → ℕ) → ℕ → ℕ
passed test x n = sum_below (λ i. cond (test i) (x i) 0) n

row-step : (b : Bool) (s t n y a : ℕ) → 2 * (s * a) ≤ t + n * (a * a) → 2 * ((s + cond b y 0) * a) ≤ t + cond b (y * y) 0 + (n + one_if b) * (a * a)
row-step true s t n y a before =
    let left = add-mul s y a in
    let right = add-mul n 1 (a * a) in
    let more = twice-product y a in
    omega arith
row-step false s t n y a before =
    let left = add-mul s 0 a in
    let right = add-mul n 0 (a * a) in
    omega arith

row-bound : (test : ℕ → Bool) (x : ℕ → ℕ) (a n : ℕ) → 2 * (passed test x n * a) ≤ passed test (λ i. x i * x i) n + count_below test n * (a * a)
unfolding sum_below count_below
row-bound test x a zero = omega arith
row-bound test x a (suc n) =
    row-step (test n) (passed test x n) (passed test (λ i. x i * x i) n) (count_below test n) (x n) a (row-bound test x a n)

square-step : (b : Bool) (s t n y : ℕ) → s * s ≤ n * t → 2 * (s * y) ≤ t + n * (y * y) → (s + cond b y 0) * (s + cond b y 0) ≤ (n + one_if b) * (t + cond b (y * y) 0)
square-step true s t n y before row =
    let left = mul-add (s + y) s y in
    let first = add-mul s y s in
    let second = add-mul s y y in
    let turned = mul_comm y s in
    let right = mul-add (n + 1) t (y * y) in
    let third = add-mul n 1 t in
    let fourth = add-mul n 1 (y * y) in
    omega arith
square-step false s t n y before row =
    let left = mul-add (s + 0) s 0 in
    let first = add-mul s 0 s in
    let right = mul-add (n + 0) t 0 in
    let second = add-mul n 0 t in
    omega arith

cauchy : (test : ℕ → Bool) (x : ℕ → ℕ) (n : ℕ) → passed test x n * passed test x n ≤ count_below test n * passed test (λ i. x i * x i) n
unfolding sum_below count_below
cauchy test x zero = omega arith
cauchy test x (suc n) =
    square-step (test n) (passed test x n) (passed test (λ i. x i * x i) n) (count_below test n) (x n) (cauchy test x n) (row-bound test x (x n) n)

-- ---- signed numbers

abs-term : (b : Bool) (z : ℤ) → nat_abs (cond b z (pos 0)) ≡ cond b (nat_abs z) 0
abs-term true z = refl
abs-term false z = refl

abs-passed : (test : ℕ → Bool) (f : ℕ → ℤ) (n : ℕ) → nat_abs (sum_of (λ i. cond (test i) (f i) (pos 0)) n) ≤ passed test (λ i. nat_abs (f i)) n
unfolding sum_of sum_below
abs-passed test f zero = omega arith
abs-passed test f (suc n) =
    let before = abs-passed test f n in
    let last = abs-term (test n) (f n) in
    let both = abs-sum (sum_of (λ i. cond (test i) (f i) (pos 0)) n) (cond (test n) (f n) (pos 0)) in
    omega arith

natural-term : (b : Bool) (z : ℤ) (x : ℕ) → z ≡ pos x → cond b z (pos 0) ≡ pos (cond b x 0)
natural-term true z x same = same
natural-term false z x same = refl

naturals-passed : (test : ℕ → Bool) (f : ℕ → ℤ) (x : ℕ → ℕ) (n : ℕ) → ((i : ℕ) → f i ≡ pos (x i)) → sum_of (λ i. cond (test i) (f i) (pos 0)) n ≡ pos (passed test x n)
unfolding sum_of sum_below
naturals-passed test f x zero same = refl
naturals-passed test f x (suc n) same = ap₂ (λ a b. a +ℤ b) (naturals-passed test f x n same) (natural-term (test n) (f n) (x n) (same n))

in-order : (a b : ℕ) → a ≤ b → pos a ≤ℤ pos b
in-order a b less = omega (arith, ints)

-- ---- bins

bin-magnitudes : (f : ℕ → ℤ) (every k c e : ℕ) → pos (nat_abs (bin_sum f every k c e)) ≤ℤ bin_sum (λ x. pos (nat_abs (f x))) every k c e
bin-magnitudes f every k c e =
    let test = λ (j : ℕ). is_measured every k (c + j) in
    let most = abs-passed test (λ j. f (c + j)) (e - c) in
    subst (λ z. pos (nat_abs (bin_sum f every k c e)) ≤ℤ z)
    (sym (naturals-passed test (λ j. pos (nat_abs (f (c + j)))) (λ j. nat_abs (f (c + j))) (e - c) (λ j. refl)))
    (in-order (nat_abs (bin_sum f every k c e)) (passed test (λ j. nat_abs (f (c + j))) (e - c)) most)

bin-squares : (f : ℕ → ℤ) (every k c e : ℕ) → square (bin_sum f every k c e) ≤ℤ (pos (epochs_in_bin every k c e) *ℤ bin_sum (λ x. square (f x)) every k c e)
bin-squares f every k c e =
    let test = λ (j : ℕ). is_measured every k (c + j) in
    let x = λ (j : ℕ). nat_abs (f (c + j)) in
    let whole = bin_sum f every k c e in
    let total = passed test x (e - c) in
    let squares = passed test (λ j. x j * x j) (e - c) in
    let count = epochs_in_bin every k c e in
    let most = abs-passed test (λ j. f (c + j)) (e - c) in
    let product = mul-le (nat_abs whole) (nat_abs whole) total total most most in
    let bound = cauchy test x (e - c) in
    let natural : pos (nat_abs whole * nat_abs whole) ≤ℤ pos (count * squares) = in-order (nat_abs whole * nat_abs whole) (count * squares) (omega arith) in
    let left = subst (λ z. z ≤ℤ pos (count * squares)) (sym (square-value whole)) natural in
    let right = subst (λ z. square whole ≤ℤ z) (sym (pos-*ℤ-pos count squares)) left in
    subst (λ z. square whole ≤ℤ (pos count *ℤ z))
    (sym (naturals-passed test (λ j. square (f (c + j))) (λ j. x j * x j) (e - c) (λ j. square-value (f (c + j))))) right

pair-term : (b : Bool) (x y : ℤ) → pos (2 * nat_abs (cond b (x *ℤ y) (pos 0))) ≤ℤ cond b (square x +ℤ square y) (pos 0)
pair-term true x y =
    let product = abs-product x y in
    let most = twice-product (nat_abs x) (nat_abs y) in
    let first = square-value x in
    let second = square-value y in
    let natural = in-order (2 * nat_abs (x *ℤ y)) (nat_abs x * nat_abs x + nat_abs y * nat_abs y) (omega arith) in
    subst (λ z. pos (2 * nat_abs (x *ℤ y)) ≤ℤ z) (sym (ap₂ (λ a b. a +ℤ b) first second)) natural
pair-term false x y = in-order 0 0 (omega arith)

pairs-passed : (test : ℕ → Bool) (f g : ℕ → ℤ) (n : ℕ) → pos (2 * nat_abs (sum_of (λ i. cond (test i) (f i *ℤ g i) (pos 0)) n)) ≤ℤ sum_of (λ i. cond (test i) (square (f i) +ℤ square (g i)) (pos 0)) n
unfolding sum_of
pairs-passed test f g zero = in-order 0 0 (omega arith)
pairs-passed test f g (suc n) =
    let before = pairs-passed test f g n in
    let last = pair-term (test n) (f n) (g n) in
    let both = abs-sum (sum_of (λ i. cond (test i) (f i *ℤ g i) (pos 0)) n) (cond (test n) (f n *ℤ g n) (pos 0)) in
    omega (arith, ints)

-- ---- the sums of a run

pub sums-bounded : (plan : Plan) (s : Sample) (every e t k : ℕ)
    → (pos (nat_abs (sum_from plan s every e t k Overlaps)) ≤ℤ sum_from plan s every e t k Magnitudes)
    × (pos (2 * nat_abs (sum_from plan s every e t k EnergyProducts)) ≤ℤ sum_from plan s every e t k EnergySquares)
    × (square (sum_from plan s every e t k Links) ≤ℤ (sum_from plan s every e t k Number *ℤ sum_from plan s every e t k LinkSquares))
    × (square (sum_from plan s every e t k Overlaps) ≤ℤ (sum_from plan s every e t k Number *ℤ sum_from plan s every e t k OverlapSquares))
sums-bounded plan s every e t k =
    let seen = λ (f : ℕ). observed plan (serial plan s f) t in
    let test = λ (j : ℕ). is_measured every k (s.epoch + j) in
    let number = sym (number-epochs plan s every e t k) in (
      bin-magnitudes (λ f. total_overlap plan.size (seen f).field) every k s.epoch e,
      pairs-passed test (λ j. (seen (s.epoch + j)).first_energy) (λ j. (seen (s.epoch + j)).second_energy) (e - s.epoch),
      subst (λ z. square (sum_from plan s every e t k Links) ≤ℤ (z *ℤ sum_from plan s every e t k LinkSquares)) number
          (bin-squares (λ f. link_overlap plan.size (seen f).field) every k s.epoch e),
      subst (λ z. square (sum_from plan s every e t k Overlaps) ≤ℤ (z *ℤ sum_from plan s every e t k OverlapSquares)) number
          (bin-squares (λ f. total_overlap plan.size (seen f).field) every k s.epoch e),
    )
