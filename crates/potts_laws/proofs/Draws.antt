-- A pair of draws as one number, and what comes of all pairs by the colour that each gives.
use Rattle.std.proofs.Common.{◌≡◌, ℕ, zero, suc, ◌+◌, ◌*◌, ◌/◌, ◌%◌, ◌<◌, Bool, ◌==◌, refl, ap, sym, ◌∙◌, arith}
use Rattle.finite_chance.specs.Sums.{sum_to}
use Rattle.finite_chance.proofs.Sums.{each-same, sum-same, draw-is-sum}
use Rattle.spin_model.specs.Words.{one_if}
use Rattle.spin_model.specs.Steps.{count_below}
use Rattle.potts_laws.specs.Equilibrium.{over_colour}

-- ---- pairs

sum-next : (k m : ℕ) (f : ℕ → ℕ) → m ≡ suc k → sum_to m f ≡ sum_to k f + f k
unfolding sum_to
sum-next k m f next = ap (λ x. sum_to x f) next

sum-two : (n k : ℕ) (f : ℕ → ℕ) → sum_to (k + n) f ≡ sum_to n f + sum_to k (λ v. f (v + n))
unfolding sum_to
sum-two n zero f = let none : zero + n ≡ n = omega arith in ap (λ x. sum_to x f) none ∙ (omega arith)
sum-two n (suc k) f =
    let before = sum-two n k f in
    let last = sum-next (k + n) (suc k + n) f (omega arith) in
    omega arith

sum-parts : (all n k : ℕ) (f : ℕ → ℕ) → all ≡ k + n → sum_to all f ≡ sum_to n f + sum_to k (λ v. f (v + n))
sum-parts all n k f parts = ap (λ x. sum_to x f) parts ∙ sum-two n k f

-- the numbers below n k are n first draws with k second draws each
sum-pairs : (k : ℕ) (g : ℕ → ℕ) (f : ℕ → ℕ → ℕ) → ((n v : ℕ) → v < k → g (v + n * k) ≡ f n v) → (n : ℕ) → sum_to (n * k) g ≡ sum_to n (λ u. sum_to k (f u))
unfolding sum_to
sum-pairs k g f at zero = let none : zero * k ≡ zero = omega arith in ap (λ x. sum_to x g) none
sum-pairs k g f at (suc n) =
    let before = sum-pairs k g f at n in
    let parts = sum-parts (suc n * k) (n * k) k g (omega arith) in
    let last = sum-same (λ v. v < k) (sum_to k) (λ v. g (v + n * k)) (f n) (draw-is-sum k) (λ v below. at n v below) in
    omega arith

pair-at : (f : ℕ → ℕ → ℕ) (n v : ℕ) → v < 4294967296 → f ((v + n * 4294967296) / 4294967296) ((v + n * 4294967296) % 4294967296) ≡ f n v
pair-at f n v below =
    let first : (v + n * 4294967296) / 4294967296 ≡ n = omega arith in
    let second : (v + n * 4294967296) % 4294967296 ≡ v = omega arith in
    ap (λ u. f u ((v + n * 4294967296) % 4294967296)) first ∙ ap (f n) second

count-sums : (t : ℕ → Bool) (n : ℕ) → count_below t n ≡ sum_to n (λ u. one_if (t u))
unfolding sum_to count_below
count-sums t zero = refl
count-sums t (suc n) = let before = count-sums t n in omega arith

pub count-pairs : (t : ℕ → ℕ → Bool) (n : ℕ) → count_below (λ w. t (w / 4294967296) (w % 4294967296)) (n * 4294967296) ≡ sum_to n (λ u. count_below (t u) 4294967296)
count-pairs t n =
    count-sums (λ w. t (w / 4294967296) (w % 4294967296)) (n * 4294967296)
    ∙ sum-pairs 4294967296 (λ w. one_if (t (w / 4294967296) (w % 4294967296))) (λ u v. one_if (t u v)) (λ m v below. pair-at (λ x y. one_if (t x y)) m v below) n
    ∙ ap (sum_to n) (each-same _ _ (λ u. sym (count-sums (t u) 4294967296)))

-- ---- colours

one-of_four : (f : ℕ → ℕ) (x : ℕ) → x < 4 → f x ≡ over_colour (λ c. one_if (x == c) * f c)
one-of_four f zero small = omega arith
one-of_four f (suc zero) small = omega arith
one-of_four f (suc (suc zero)) small = omega arith
one-of_four f (suc (suc (suc zero))) small = omega arith
one-of_four f (suc (suc (suc (suc x)))) small = absurd (omega arith)

-- a sum over draws, by the colour that each gives
pub by-colour : (colour : ℕ → ℕ) (f : ℕ → ℕ) → ((w : ℕ) → colour w < 4) → (n : ℕ) → sum_to n (λ w. f (colour w)) ≡ over_colour (λ c. count_below (λ w. colour w == c) n * f c)
unfolding sum_to count_below
by-colour colour f small zero = omega arith
by-colour colour f small (suc n) =
    let before = by-colour colour f small n in
    let last = one-of_four f (colour n) (small n) in
    omega arith

pub sum-ones : (n : ℕ) → sum_to n (λ w. 1) ≡ n
unfolding sum_to
sum-ones zero = refl
sum-ones (suc n) = let before = sum-ones n in omega arith
