-- Sums of signed numbers: term by term, in the other order, in two ranges, and around a circle.
use Rattle.std.proofs.Common.{inl, inr, ◌≡◌, ℕ, zero, suc, ◌+◌, ◌-◌, ◌*◌, ◌%◌, ◌<◌, ◌≤◌, false, cond, ◌==◌, ℤ, pos, ◌+ℤ◌, ◌*ℤ◌, refl, ap, ap₂, sym, ◌∙◌, arith}
use Rattle.std.proofs.Math.IntN.{+ℤ_assoc, +ℤ_comm, +ℤ_idr, *ℤ_comm, zero-*ℤ}
use Rattle.std.proofs.Math.Nat.{add-mul, add-mod_right, add-mod-mod, mod-eq_of_lt}
use Rattle.std.proofs.lemmas.Int.{ints}
use Rattle.std.proofs.lemmas.Bool.{cases_lt, eq-eqb}
use Rattle.std.proofs.lemmas.Bool.Decides.{nat_tests}
use borrow.Author.Differences.{up, down, sum_is_lem}
use Rattle.spin_model.specs.SignedSums.{sum_of}

-- ---- products of sums

expanded : (x y z k : ℕ) → (x + y + z) * k ≡ x * k + y * k + z * k
expanded x y z k = add-mul (x + y) z k ∙ ap (λ n. n + z * k) (add-mul x y k)

pub sum-times : (a b c : ℤ) → (a +ℤ b) *ℤ c ≡ a *ℤ c +ℤ b *ℤ c
sum-times a b c =
    let whole = sum_is_lem a b in
    let above = sym (expanded (up (a +ℤ b)) (down a) (down b) (up c)) ∙ ap (λ n. n * up c) whole ∙ expanded (down (a +ℤ b)) (up a) (up b) (up c) in
    let below = sym (expanded (up (a +ℤ b)) (down a) (down b) (down c)) ∙ ap (λ n. n * down c) whole ∙ expanded (down (a +ℤ b)) (up a) (up b) (down c) in
    omega (arith, ints)

-- ---- term by term

pub terms-same : (f g : ℕ → ℤ) (n : ℕ) → ((i : ℕ) → i < n → f i ≡ g i) → sum_of f n ≡ sum_of g n
unfolding sum_of
terms-same f g zero same = refl
terms-same f g (suc n) same = ap₂ (λ a b. a +ℤ b) (terms-same f g n (λ i below. same i (omega arith))) (same n (omega arith))

pub terms-add : (f g : ℕ → ℤ) (n : ℕ) → sum_of (λ i. f i +ℤ g i) n ≡ sum_of f n +ℤ sum_of g n
unfolding sum_of
terms-add f g zero = refl
terms-add f g (suc n) = let before = terms-add f g n in omega (arith, ints)

pub terms-none : (n : ℕ) → sum_of (λ i. pos 0) n ≡ pos 0
unfolding sum_of
terms-none zero = refl
terms-none (suc n) = ap (λ s. s +ℤ pos 0) (terms-none n)

pub terms-times : (f : ℕ → ℤ) (z : ℤ) (n : ℕ) → sum_of (λ i. f i *ℤ z) n ≡ sum_of f n *ℤ z
unfolding sum_of
terms-times f z zero = sym (zero-*ℤ z)
terms-times f z (suc n) = ap (λ s. s +ℤ f n *ℤ z) (terms-times f z n) ∙ sym (sum-times (sum_of f n) (f n) z)

pub terms-swap : (h : ℕ → ℕ → ℤ) (n m : ℕ) → sum_of (λ i. sum_of (h i) m) n ≡ sum_of (λ j. sum_of (λ i. h i j) n) m
unfolding sum_of
terms-swap h zero m = sym (terms-none m)
terms-swap h (suc n) m = ap (λ s. s +ℤ sum_of (h n) m) (terms-swap h n m) ∙ sym (terms-add (λ j. sum_of (λ i. h i j) n) (h n) m)

-- a range, then the next one
pub terms-range : (f : ℕ → ℤ) (n m : ℕ) → sum_of f (n + m) ≡ sum_of f n +ℤ sum_of (λ j. f (n + j)) m
unfolding sum_of
terms-range f n zero =
    let none : n + 0 ≡ n = omega arith in
    ap (sum_of f) none ∙ sym (+ℤ_idr (sum_of f n))
terms-range f n (suc m) =
    let more : n + suc m ≡ suc (n + m) = omega arith in
    ap (sum_of f) more ∙ ap (λ s. s +ℤ f (n + m)) (terms-range f n m) ∙ +ℤ_assoc (sum_of f n) (sum_of (λ j. f (n + j)) m) (f (n + m))

-- a sum with one term
term-missed : (z : ℤ) (c n : ℕ) → n ≤ c → sum_of (λ j. cond (c == j) z (pos 0)) n ≡ pos 0
unfolding sum_of
term-missed z c zero past = refl
term-missed z c (suc n) past =
    let other : (c == n) ≡ false = grind (arith, nat_tests) in
    ap₂ (λ a b. a +ℤ b) (term-missed z c n (omega arith)) (ap (λ b. cond b z (pos 0)) other)

pub term-hit : (z : ℤ) (c n : ℕ) → c < n → sum_of (λ j. cond (c == j) z (pos 0)) n ≡ z
unfolding sum_of
term-hit z c zero below = absurd (omega arith)
term-hit z c (suc n) below = elim (cases_lt c n) [
  | inl less ↦
      let other : (c == n) ≡ false = grind (arith, nat_tests) in
      ap₂ (λ a b. a +ℤ b) (term-hit z c n less) (ap (λ b. cond b z (pos 0)) other) ∙ +ℤ_idr z
  | inr not ↦
      let before = term-missed z c n (omega arith) in
      let last = ap (λ b. cond b z (pos 0)) (eq-eqb c n (omega arith)) in
      ap₂ (λ a b. a +ℤ b) before last ∙ omega (arith, ints)
]

-- ---- around a circle

past-wrap : (a j l : ℕ) → a ≡ j + l → j < l → a % l ≡ j
past-wrap a j l e below = ap (λ n. n % l) e ∙ add-mod_right j l ∙ mod-eq_of_lt below

-- beginning elsewhere
pub terms-around : (f : ℕ → ℤ) (l r : ℕ) → r ≤ l → sum_of (λ m. f ((m + r) % l)) l ≡ sum_of f l
terms-around f l r within =
    let g = λ (m : ℕ). f ((m + r) % l) in
    let parts : l ≡ l - r + r = omega arith in
    let turned : l ≡ r + (l - r) = omega arith in
    let split = ap (sum_of g) parts ∙ terms-range g (l - r) r in
    let early = terms-same g (λ j. f (r + j)) (l - r) (λ i below. ap f (mod-eq_of_lt (omega arith) ∙ omega arith)) in
    let late = terms-same (λ j. g (l - r + j)) f r (λ j below. ap f (past-wrap (l - r + j + r) j l (omega arith) (omega arith))) in
    let whole = ap (sum_of f) turned ∙ terms-range f r (l - r) in
    split ∙ ap₂ (λ a b. a +ℤ b) early late ∙ +ℤ_comm (sum_of (λ j. f (r + j)) (l - r)) (sum_of f r) ∙ sym whole

-- as many steps on as are left to the whole circle are so many steps back
pub returned : (m l r : ℕ) → m < l → r ≤ l → ((m + r) % l + (l - r)) % l ≡ m
returned m l r below within =
    let swapped : (m + r) % l + (l - r) ≡ l - r + (m + r) % l = omega arith in
    ap (λ n. n % l) swapped ∙ add-mod-mod (l - r) (m + r) l ∙ past-wrap (l - r + (m + r)) m l (omega arith) below

pub distances-turn : (p : ℕ → ℤ) (l r : ℕ) → r ≤ l
    → sum_of (λ m. p m *ℤ p ((m + (l - r)) % l)) l ≡ sum_of (λ m. p m *ℤ p ((m + r) % l)) l
distances-turn p l r within =
    let f = λ (m : ℕ). p m *ℤ p ((m + (l - r)) % l) in
    sym (terms-around f l r within)
    ∙ terms-same (λ m. f ((m + r) % l)) (λ m. p m *ℤ p ((m + r) % l)) l
    (λ m below. ap (λ n. p ((m + r) % l) *ℤ p n) (returned m l r below within) ∙ *ℤ_comm (p ((m + r) % l)) (p m))

-- all distances from one place are all places
from-one : (p : ℕ → ℤ) (l m : ℕ) → m ≤ l → sum_of (λ r. p m *ℤ p ((m + r) % l)) l ≡ p m *ℤ sum_of p l
from-one p l m within =
    let swapped : (r : ℕ) → p m *ℤ p ((m + r) % l) ≡ p ((r + m) % l) *ℤ p m = λ r. *ℤ_comm (p m) (p ((m + r) % l))
    ∙ ap (λ n. p (n % l) *ℤ p m) (let turned : m + r ≡ r + m = omega arith in turned) in
    terms-same (λ r. p m *ℤ p ((m + r) % l)) (λ r. p ((r + m) % l) *ℤ p m) l (λ r below. swapped r)
    ∙ terms-times (λ r. p ((r + m) % l)) (p m) l
    ∙ ap (λ s. s *ℤ p m) (terms-around p l m within)
    ∙ *ℤ_comm (sum_of p l) (p m)

pub distances-add : (p : ℕ → ℤ) (l : ℕ) → sum_of (λ r. sum_of (λ m. p m *ℤ p ((m + r) % l)) l) l ≡ sum_of p l *ℤ sum_of p l
distances-add p l =
    terms-swap (λ r m. p m *ℤ p ((m + r) % l)) l l
    ∙ terms-same (λ m. sum_of (λ r. p m *ℤ p ((m + r) % l)) l) (λ m. p m *ℤ sum_of p l) l (λ m below. from-one p l m (omega arith))
    ∙ terms-times p (sum_of p l) l

-- ---- distances up to half the circle

terms-one : (f : ℕ → ℤ) → sum_of f 1 ≡ f 0
unfolding sum_of
terms-one f = omega (arith, ints)

terms-zero : (f g : ℕ → ℤ) → sum_of f zero ≡ sum_of g zero
unfolding sum_of
terms-zero f g = refl

terms-more : (f : ℕ → ℤ) (n : ℕ) → sum_of f (suc n) ≡ sum_of f n +ℤ f n
unfolding sum_of
terms-more f n = refl

-- in the order of falling numbers
terms-reversed : (f : ℕ → ℤ) (n : ℕ) → sum_of f n ≡ sum_of (λ k. f (n - suc k)) n
terms-reversed f zero = terms-zero f (λ k. f (zero - suc k))
terms-reversed f (suc n) =
    let g = λ (k : ℕ). f (suc n - suc k) in
    let first : suc n ≡ 1 + n = omega arith in
    let front = ap (sum_of g) first ∙ terms-range g 1 n in
    let rest = terms-same (λ k. g (1 + k)) (λ k. f (n - suc k)) n (λ k below. ap f (let same : suc n - suc (1 + k) ≡ n - suc k = omega arith in same)) in
    let one = terms-one g ∙ ap f (let same : suc n - suc 0 ≡ n = omega arith in same) in
    let before = terms-reversed f n in
    terms-more f n ∙ omega (arith, ints)

-- where each distance is as the one the other way around, those between 0 and half are there twice
pub halves-add : (c : ℕ → ℤ) (l g : ℕ) → l ≡ suc (g + suc g) → ((r : ℕ) → r ≤ l → c (l - r) ≡ c r)
    → sum_of c l ≡ c 0 +ℤ pos 2 *ℤ sum_of (λ k. c (k + 1)) g +ℤ c (suc g)
halves-add c l g even turn =
    let once = λ (j : ℕ). c (1 + j) in
    let whole : l ≡ 1 + (g + (1 + g)) = omega arith in
    let parts = ap (sum_of c) whole ∙ terms-range c 1 (g + (1 + g)) in
    let first = terms-one c in
    let others = terms-range once g (1 + g) in
    let back = terms-range (λ j. once (g + j)) 1 g in
    let middle = terms-one (λ j. once (g + j)) ∙ ap c (let same : 1 + (g + 0) ≡ suc g = omega arith in same) in
    let mirrored = terms-same (λ j. once (g + (1 + j))) (λ j. once (g - suc j)) g
    (λ j below. ap c (let far : 1 + (g + (1 + j)) ≡ l - (1 + (g - suc j)) = omega arith in far) ∙ turn (1 + (g - suc j)) (omega arith))
    ∙ sym (terms-reversed once g) in
    let named = terms-same once (λ k. c (k + 1)) g (λ k below. ap c (let same : 1 + k ≡ k + 1 = omega arith in same)) in
    omega (arith, ints)
