-- The least and the greatest of the first numbers of a sequence, their sum, and counts.
use Rattle.std.proofs.Common.{arith, ◌≡◌, ◌≢◌, inl, inr, ℕ, zero, suc, ◌+◌, ◌-◌, ◌*◌, ◌<◌, ◌≤◌, min, max, Bool, true, false, refl, sym, ap, ap₂, ◌∙◌, add-one}
use native.Mathlib.Nat.{suc-mul}
use Rattle.std.proofs.lemmas.Bool.{cases_lt}
use Rattle.std.proofs.lemmas.Bool.Decides.{eqb_tells}
use Rattle.spin_model.specs.Words.{one_if}
use Rattle.spin_model.specs.Steps.{count_below}
use Rattle.scalar_rule.specs.Positions.{least, greatest, sum_below}

pub least-zero : (f : ℕ → ℕ) → least f 0 ≡ f 0
unfolding least
least-zero f = refl

pub least-more : (f : ℕ → ℕ) (n : ℕ) → least f (n + 1) ≡ min (least f n) (f n)
unfolding least
least-more f n = rw add-one refl

pub least-at : (f : ℕ → ℕ) (n t : ℕ) → t < n → least f n ≤ f t
unfolding least
least-at f zero t h = absurd (omega arith)
least-at f (suc n) t h = elim (cases_lt t n) [
  | inl less ↦ let z = least-at f n t less in omega arith
  | inr last ↦ let same : t ≡ n = omega arith in let z : f t ≡ f n = ap f same in omega arith
]

-- it is one of them
pub least-some : (f : ℕ → ℕ) (n : ℕ) → 0 < n → (m : ℕ) × (m < n) × (least f n ≡ f m)
unfolding least
least-some f zero h = absurd (omega arith)
least-some f (suc zero) h = (0, omega arith, omega arith)
least-some f (suc (suc n)) h =
    let before = least-some f (suc n) (omega arith) in
    elim (cases_lt (f (suc n)) (least f (suc n))) [
      | inl less ↦ (suc n, omega arith, omega arith)
      | inr more ↦ (before.0, omega (arith, before.1), let z : min (least f (suc n)) (f (suc n)) ≡ least f (suc n) = omega arith in z ∙ before.2)
    ]

pub least-same : (f g : ℕ → ℕ) (n : ℕ) → f 0 ≡ g 0 → ((t : ℕ) → t < n → f t ≡ g t) → least f n ≡ least g n
unfolding least
least-same f g zero first same = first
least-same f g (suc n) first same = ap₂ min (least-same f g n first (λ t h. same t (omega arith))) (same n (omega arith))

pub greatest-zero : (f : ℕ → ℕ) → greatest f 0 ≡ f 0
unfolding greatest
greatest-zero f = refl

pub greatest-more : (f : ℕ → ℕ) (n : ℕ) → greatest f (n + 1) ≡ max (greatest f n) (f n)
unfolding greatest
greatest-more f n = rw add-one refl

pub greatest-at : (f : ℕ → ℕ) (n t : ℕ) → t < n → f t ≤ greatest f n
unfolding greatest
greatest-at f zero t h = absurd (omega arith)
greatest-at f (suc n) t h = elim (cases_lt t n) [
  | inl less ↦ let z = greatest-at f n t less in omega arith
  | inr last ↦ let same : t ≡ n = omega arith in let z : f t ≡ f n = ap f same in omega arith
]

pub greatest-below : (f : ℕ → ℕ) (n c : ℕ) → f 0 ≤ c → ((t : ℕ) → t < n → f t ≤ c) → greatest f n ≤ c
unfolding greatest
greatest-below f zero c first each = first
greatest-below f (suc n) c first each = let z = greatest-below f n c first (λ t h. each t (omega arith)) in let y = each n (omega arith) in omega arith

pub greatest-same : (f g : ℕ → ℕ) (n : ℕ) → f 0 ≡ g 0 → ((t : ℕ) → t < n → f t ≡ g t) → greatest f n ≡ greatest g n
unfolding greatest
greatest-same f g zero first same = first
greatest-same f g (suc n) first same = ap₂ max (greatest-same f g n first (λ t h. same t (omega arith))) (same n (omega arith))

pub sum-same : (f g : ℕ → ℕ) (n : ℕ) → ((t : ℕ) → t < n → f t ≡ g t) → sum_below f n ≡ sum_below g n
unfolding sum_below
sum-same f g zero same = refl
sum-same f g (suc n) same = ap₂ (λ a b. a + b) (sum-same f g n (λ t h. same t (omega arith))) (same n (omega arith))

-- one of them is one more
pub sum-one : (f g : ℕ → ℕ) (n t : ℕ) → t < n → g t ≡ f t + 1 → ((j : ℕ) → j ≢ t → g j ≡ f j) → sum_below g n ≡ sum_below f n + 1
unfolding sum_below
sum-one f g zero t h one rest = absurd (omega arith)
sum-one f g (suc n) t h one rest = elim (eqb_tells n t) [
  | inl a ↦
      let same : n ≡ t = a.1 in
      let before = sum-same g f n (λ j below. rest j (λ z. omega arith)) in
      let last : g n ≡ f n + 1 = ap g same ∙ (one ∙ ap (λ k. f k + 1) (sym same)) in
      omega arith
  | inr a ↦
      let other : n ≢ t = a.1 in
      let before = sum-one f g n t (omega arith) one rest in
      let last = rest n other in
      omega arith
]

-- numbers of at most u, and n of them that have the sum n u
pub sum-most : (f : ℕ → ℕ) (n u : ℕ) → ((t : ℕ) → t < n → f t ≤ u) → sum_below f n ≤ n * u
unfolding sum_below
sum-most f zero u most = omega arith
sum-most f (suc n) u most =
    let before = sum-most f n u (λ t h. most t (omega arith)) in
    let last = most n (omega arith) in
    let more : suc n * u ≡ n * u + u = suc-mul n u in
    omega arith

pub sum-full : (f : ℕ → ℕ) (n u : ℕ) → ((t : ℕ) → t < n → f t ≤ u) → sum_below f n ≡ n * u → (t : ℕ) → t < n → f t ≡ u
unfolding sum_below
sum-full f zero u most sum t h = absurd (omega arith)
sum-full f (suc n) u most sum t h =
    let before = sum-most f n u (λ j below. most j (omega arith)) in
    let last = most n (omega arith) in
    let more : suc n * u ≡ n * u + u = suc-mul n u in
    elim (eqb_tells t n) [
      | inl a ↦ ap f a.1 ∙ omega arith
      | inr a ↦ let other : t ≢ n = a.1 in sum-full f n u (λ j below. most j (omega arith)) (omega arith) t (omega arith)
    ]

-- a count grows
pub count-grows : (test : ℕ → Bool) (n m : ℕ) → count_below test n ≤ count_below test (n + m)
unfolding count_below
count-grows test n zero = let z : n + 0 ≡ n = omega arith in let y : count_below test (n + 0) ≡ count_below test n = ap (count_below test) z in omega arith
count-grows test n (suc m) =
    let z : n + suc m ≡ suc (n + m) = omega arith in
    let y : count_below test (n + suc m) ≡ count_below test (n + m) + one_if (test (n + m)) = ap (count_below test) z in
    let x = count-grows test n m in omega arith

pub count-upto : (test : ℕ → Bool) (i j : ℕ) → i ≤ j → count_below test i ≤ count_below test j
count-upto test i j h = let z : i + (j - i) ≡ j = omega arith in let y : count_below test (i + (j - i)) ≡ count_below test j = ap (count_below test) z in let x = count-grows test i (j - i) in omega arith

pub count-hit : (test : ℕ → Bool) (n : ℕ) → test n ≡ true → count_below test (n + 1) ≡ count_below test n + 1
unfolding count_below
count-hit test n hit = rw (add-one, hit) refl

pub count-missed : (test : ℕ → Bool) (n : ℕ) → test n ≡ false → count_below test (n + 1) ≡ count_below test n
unfolding count_below
count-missed test n missed = rw (add-one, missed) (omega arith)

-- a number that passes is counted past it
pub count-past : (test : ℕ → Bool) (i j : ℕ) → test i ≡ true → i < j → count_below test i < count_below test j
count-past test i j hit h = let z = count-hit test i hit in let y = count-upto test (i + 1) j (omega arith) in omega arith

-- equal numbers
pub flat : (f : ℕ → ℕ) (n c : ℕ) → ((t : ℕ) → t < n → f t ≡ c) → greatest f n - least f n ≡ 0
unfolding greatest least
flat f zero c same = omega arith
flat f (suc n) c same =
    let low = least-some f (suc n) (omega arith) in
    let at = same low.0 low.1 in
    let first = same 0 (omega arith) in
    let high = greatest-below f (suc n) c (omega arith) (λ t h. let z = same t h in omega arith) in
    let is = low.2 in
    omega arith
