-- No wrong label: the labels of each replica and sample are a permutation of the slots' numbers.
use Rattle.std.proofs.Common.{◌≡◌, ℕ, zero, suc, ◌+◌, ◌*◌, ◌/◌, ◌%◌, ◌<◌, ◌≤◌, true, false, eqb, List, ◌∷◌, length, map, get_or, None, refl, sym, arith, inl, inr}
use Rattle.std.specs.Prelude.{◌==◌, nat_le}
use Rattle.std.specs.List.{range_with_len, list_any, IsDistinct}
use Rattle.std.proofs.lemmas.Bool.{both_ways, cases_lt, eqb-true, cases_Bool, eq-eqb, leb-false, lt-leb, ne_eqb, or_cases, or_parts}
use Rattle.std.proofs.lemmas.List.FromFn.{length-map-range_with_len, get_or-map-range_with_len}
use Rattle.std.proofs.lemmas.Map.Steps.{length-le_from_distinct_below}
use Rattle.std.proofs.lemmas.Map.Keys.{IsDistinct-from_apart}
use Rattle.scalar_rule.specs.Epoch.{slot_at}
use Rattle.scalar_rule.specs.declared.sample.PlainSlot.{PlainSlot}
use Rattle.plane_sweep.specs.Packed.{Permutes, PermutesAt}
use Rattle.run_checkpoint.specs.Tests.{some_below, label, is_wrong, wrong_at, wrong_label}
use Rattle.run_checkpoint.proofs.FirstOf.{first-all, all-none, none-below, found-below, all-fail}
use Rattle.run_checkpoint.proofs.Tested.{held}

-- ---- as many different numbers below n as there are

differ-flip : (a b : ℕ) → (a == b) ≡ false → eqb b a ≡ false
differ-flip a b e = ne_eqb b a (λ same_one. let h : (a == b) ≡ true = eq-eqb a b (sym same_one) in absurd cc)

apart-in_list : (n : ℕ) (f : ℕ → ℕ) → ((t u : ℕ) → t < n → u < n → f t ≡ f u → t ≡ u) → (q : ℕ) → some_below (λ t. f t == q) n ≡ false
    → (i j d : ℕ) → i < j → j < suc n → eqb (get_or (q ∷ map f (range_with_len 0 n)) i d) (get_or (q ∷ map f (range_with_len 0 n)) j d) ≡ false
apart-in_list n f apart q none i zero d less within = absurd (omega arith)
apart-in_list n f apart q none zero (suc j) d less within =
    let in_range : j < n = omega arith in
    rw (get_or-map-range_with_len f 0 n j j d in_range (omega arith)) (differ-flip (f j) q (none-below (λ t. f t == q) n j none in_range))
apart-in_list n f apart q none (suc i) (suc j) d less within =
    let first : i < n = omega arith in
    let second : j < n = omega arith in
    rw (get_or-map-range_with_len f 0 n i i d first (omega arith), get_or-map-range_with_len f 0 n j j d second (omega arith)) (ne_eqb (f i) (f j) (λ e. let h : i ≡ j = apart i j first second e in absurd (omega arith)))

in-list : (m : ℕ) (f : ℕ → ℕ) (x a n : ℕ) → ((t : ℕ) → a ≤ t → t < a + n → f t < m) → list_any (eqb x) (map f (range_with_len a n)) ≡ true → x < m
in-list m f x a zero below there = absurd cc
in-list m f x a (suc n) below there = elim (or_cases (eqb x (f a)) (list_any (eqb x) (map f (range_with_len (a + 1) n))) there) [
  | inl e ↦ let is : x ≡ f a = eqb-true x (f a) e in let h : f a < m = below a (omega arith) (omega arith) in omega arith
  | inr later ↦ in-list m f x (a + 1) n (λ t ge lt. below t (omega arith) (omega arith)) later
]

too-many : (n : ℕ) (f : ℕ → ℕ) → ((t : ℕ) → t < n → f t < n) → ((t u : ℕ) → t < n → u < n → f t ≡ f u → t ≡ u) → (q : ℕ) → q < n → some_below (λ t. f t == q) n ≡ false → ⊥
too-many n f below apart q lt none =
    let distinct : IsDistinct eqb (q ∷ map f (range_with_len 0 n)) = IsDistinct-from_apart eqb (q ∷ map f (range_with_len 0 n)) (λ i j d less within. apart-in_list n f apart q none i j d less (omega (arith, length-map-range_with_len f 0 n))) in
    let le : length (q ∷ map f (range_with_len 0 n)) ≤ n = length-le_from_distinct_below (q ∷ map f (range_with_len 0 n)) n distinct (λ x there. elim (or_cases (eqb x q) (list_any (eqb x) (map f (range_with_len 0 n))) there) [
      | inl e ↦ let is : x ≡ q = eqb-true x q e in omega arith
      | inr later ↦ in-list n f x 0 n (λ t ge less. below t (omega arith)) later
    ]) in
    omega (arith, length-map-range_with_len f 0 n)

onto-from_apart : (n : ℕ) (f : ℕ → ℕ) → ((t : ℕ) → t < n → f t < n) → ((t u : ℕ) → t < n → u < n → f t ≡ f u → t ≡ u) → (q : ℕ) → q < n → (t : ℕ) × (t < n) × (f t ≡ q)
onto-from_apart n f below apart q lt = elim (cases_Bool (some_below (λ t. f t == q) n)) [
  | inl found ↦ let k = found-below (λ t. f t == q) n found in (k.0, k.1, eqb-true (f k.0) q k.2)
  | inr none ↦ absurd (too-many n f below apart q lt none)
]

-- ---- one label

right-as : (n : ℕ) (slots : ℕ → List PlainSlot) (k slot copy sample : ℕ) → k / 128 ≡ slot → k / 64 % 2 ≡ copy → k % 64 ≡ sample → None ≡ wrong_at n slots k → is_wrong n slots slot copy sample ≡ false
unfolding wrong_at
right-as n slots k slot copy sample a b c e = rw (← a, ← b, ← c) (held _ _ e)

at-right : (n : ℕ) (slots : ℕ → List PlainSlot) (k : ℕ) → is_wrong n slots (k / 128) (k / 64 % 2) (k % 64) ≡ false → None ≡ wrong_at n slots k
unfolding wrong_at
at-right n slots k e = rw e refl

-- ---- both directions, for one replica and sample

labels-permute : (n : ℕ) (slots : ℕ → List PlainSlot) → None ≡ wrong_label n slots → (copy sample : ℕ) → copy < 2 → sample < 64 → Permutes n (λ slot. label slots slot copy sample)
unfolding wrong_label
labels-permute n slots none copy sample copies samples =
    let right : (slot : ℕ) → slot < n → is_wrong n slots slot copy sample ≡ false = λ slot lt. right-as n slots (128 * slot + 64 * copy + sample) slot copy sample (omega arith) (omega arith) (omega arith) (first-all (wrong_at n slots) 0 (128 * n) none _ (omega arith) (omega arith)) in
    let below : (t : ℕ) → t < n → label slots t copy sample < n = λ t lt. leb-false n (label slots t copy sample) (or_parts _ _ (right t lt)).0 in
    let apart : (t u : ℕ) → t < n → u < n → label slots t copy sample ≡ label slots u copy sample → t ≡ u = λ t u lt less e.
    elim (cases_lt t u) [
      | inl before ↦ let h = none-below (λ earlier. label slots earlier copy sample == label slots u copy sample) u t (or_parts _ _ (right u less)).1 before in let g = eq-eqb (label slots t copy sample) (label slots u copy sample) e in absurd (both_ways _ h g)
      | inr after ↦ elim (cases_lt u t) [
        | inl before ↦ let h = none-below (λ earlier. label slots earlier copy sample == label slots t copy sample) t u (or_parts _ _ (right t lt)).1 before in let g = eq-eqb (label slots u copy sample) (label slots t copy sample) (sym e) in absurd (both_ways _ h g)
        | inr level ↦ omega arith
      ]
    ] in
    record { below = below; apart = apart; onto = onto-from_apart n (λ slot. label slots slot copy sample) below apart }

never-wrong : (n : ℕ) (slots : ℕ → List PlainSlot) (slot copy sample : ℕ) → slot < n → Permutes n (λ t. label slots t copy sample) → is_wrong n slots slot copy sample ≡ false
never-wrong n slots slot copy sample lt fits =
    let first : nat_le n (label slots slot copy sample) ≡ false = lt-leb _ _ (fits.below slot lt) in
    let second : some_below (λ earlier. label slots earlier copy sample == label slots slot copy sample) slot ≡ false = all-fail _ slot (λ k less. ne_eqb _ _ (λ e. let h : k ≡ slot = fits.apart k slot (omega arith) lt e in absurd (omega arith))) in
    rw (first, second) refl

-- ---- all of them

pub right-labels : (n : ℕ) (slots : ℕ → List PlainSlot) → None ≡ wrong_label n slots → (b : ℕ) → b < 64 → PermutesAt n (λ t. slot_at (slots b) t)
right-labels n slots none b small = record {
  first = labels-permute n slots none 0 b (omega arith) small;
  second = labels-permute n slots none 1 b (omega arith) small;
}

either : (n : ℕ) (slots : ℕ → List PlainSlot) (copy b : ℕ) → copy < 2 → PermutesAt n (λ t. slot_at (slots b) t) → Permutes n (λ t. label slots t copy b)
either n slots zero b copies fits = fits.first
either n slots (suc zero) b copies fits = fits.second
either n slots (suc (suc copy)) b copies fits = absurd (omega arith)

pub labels-right : (n : ℕ) (slots : ℕ → List PlainSlot) → ((b : ℕ) → b < 64 → PermutesAt n (λ t. slot_at (slots b) t)) → None ≡ wrong_label n slots
unfolding wrong_label
labels-right n slots fits = all-none (wrong_at n slots) 0 (128 * n) (λ k ge lt. at-right n slots k (never-wrong n slots (k / 128) (k / 64 % 2) (k % 64) (omega arith) (either n slots (k / 64 % 2) (k % 64) (omega arith) (fits (k % 64) (omega arith)))))
