-- How many epochs are recorded.
use Rattle.std.proofs.Common.{arith, ◌≡◌, ◌≢◌, inl, inr, ℕ, zero, suc, ◌+◌, ◌-◌, ◌*◌, ◌/◌, ◌%◌, ◌<◌, ◌≤◌, Bool, true, false, cond, refl, sym, ap, ◌∙◌, add-zero}
use Rattle.std.proofs.lemmas.Bool.{cases_Bool, eqb-true, eqb-false}
use Rattle.std.proofs.lemmas.Nat.{div-mul-add, div-add-mod', mod_below, le-div}
use native.Mathlib.Nat.{suc-mul}
use Rattle.spin_model.specs.Steps.{count_below}
use Rattle.spin_model.specs.Words.{one_if}
use Rattle.spin_model.proofs.Tables.{count_below-zero, count_below-more}
use Rattle.scalar_rule.specs.Records.{is_recorded, recorded_epochs}

pub quotient-upto : (n c f : ℕ) → 0 < n → c ≤ f → c / n ≤ f / n
quotient-upto n c f some h = let z = div-add-mod' c n in le-div (c / n) f n some (omega arith)

-- one more epoch
pub next-recorded : (n e : ℕ) → 0 < n → e % n ≡ n - 1 → (e + 1) / n ≡ e / n + 1
next-recorded n e some last =
    let z = div-add-mod' e n in
    let y : suc (e / n) * n ≡ e / n * n + n = suc-mul (e / n) n in
    let is : e + 1 ≡ suc (e / n) * n + 0 = omega arith in
    let q : (suc (e / n) * n + 0) / n ≡ suc (e / n) = div-mul-add (suc (e / n)) n 0 some in
    ap (λ k. k / n) is ∙ (q ∙ (let w : suc (e / n) ≡ e / n + 1 = omega arith in w))

pub next-passed : (n e : ℕ) → 0 < n → e % n ≢ n - 1 → (e + 1) / n ≡ e / n
next-passed n e some other =
    let z = div-add-mod' e n in
    let r = mod_below e n some in
    let is : e + 1 ≡ e / n * n + (e % n + 1) = omega arith in
    ap (λ k. k / n) is ∙ div-mul-add (e / n) n (e % n + 1) (omega arith)

pub recorded-more : (n f : ℕ) → 0 < n → (f + 1) / n ≡ f / n + cond (is_recorded n f) 1 0
recorded-more n f some = elim (cases_Bool (is_recorded n f)) [
  | inl on ↦ next-recorded n f some (eqb-true (f % n) (n - 1) on) ∙ ap (λ b. f / n + cond b 1 0) (sym on)
  | inr off ↦ next-passed n f some (eqb-false (f % n) (n - 1) off) ∙ sym (add-zero (f / n)) ∙ ap (λ b. f / n + cond b 1 0) (sym off)
]

one-cond : (b : Bool) → one_if b ≡ cond b 1 0
one-cond true = refl
one-cond false = refl

counted : (every from n : ℕ) → 0 < every → count_below (λ k. is_recorded every (from + k)) n ≡ (from + n) / every - from / every
counted every from zero some =
    let here : (from + 0) / every ≡ from / every = ap (λ k. k / every) (let z : from + 0 ≡ from = omega arith in z) in
    count_below-zero (λ k. is_recorded every (from + k)) ∙ (let z : 0 ≡ (from + 0) / every - from / every = omega arith in z)
counted every from (suc n) some =
    let test : ℕ → Bool = λ k. is_recorded every (from + k) in
    let there : from + suc n ≡ (from + n) + 1 = omega arith in
    let one : count_below test (suc n) ≡ count_below test n + one_if (test n) = ap (count_below test) (let z : suc n ≡ n + 1 = omega arith in z) ∙ count_below-more test n in
    let before = counted every from n some in
    let next : (from + suc n) / every ≡ (from + n) / every + cond (test n) 1 0 = ap (λ k. k / every) there ∙ recorded-more every (from + n) some in
    let bit = one-cond (test n) in
    let upto = quotient-upto every from (from + n) some (omega arith) in
    omega arith

-- the number is the count
pub epochs-counted : (every from to : ℕ) → 1 ≤ every → from ≤ to → count_below (λ k. is_recorded every (from + k)) (to - from) ≡ recorded_epochs every from to
epochs-counted every from to some window =
    counted every from (to - from) some ∙ ap (λ k. k / every - from / every) (let z : from + (to - from) ≡ to = omega arith in z)
