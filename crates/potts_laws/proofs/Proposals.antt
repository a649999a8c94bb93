-- The first draw's step, and how many draws give each.
use Rattle.std.proofs.Common.{◌≡◌, ◌≢◌, ℕ, zero, suc, ◌-◌, ◌<◌, ◌≤◌, Bool, true, false, ◌==◌, if◌then◌else◌, ap, ◌∙◌, sym, arith}
use Rattle.std.proofs.lemmas.Bool.{eq-eqb}
use Rattle.potts_glass.specs.Potts.{step_of, proposed}
use Rattle.potts_laws.specs.Changes.{proposing_draws}
use Rattle.potts_laws.proofs.Counts.{IsBetween, count-between, unequal}

-- a greater step leads to another colour
greater-step : (c x p : ℕ) → x < p → p < 3 → proposed c x ≢ proposed c p
greater-step c x p less small e = omega arith

steps-between : (c p low high : ℕ) → p < 3 → ((u : ℕ) → u < low → step_of u < p) → ((u : ℕ) → low ≤ u → u < high → step_of u ≡ p)
    → ((u : ℕ) → high ≤ u → u < 4294967296 → p < step_of u) → IsBetween (λ u. proposed c (step_of u) == proposed c p) low high 4294967296
steps-between c p low high small under inside over = record {
  under = λ u less. unequal _ _ (greater-step c (step_of u) p (under u less) small);
  inside = λ u past less. eq-eqb _ _ (ap (proposed c) (inside u past less));
  over = λ u more within. let three : step_of u < 3 = omega arith in unequal _ _ (λ e. greater-step c p (step_of u) (over u more within) three (sym e));
}

pub proposals-counted : (c step : ℕ) → step < 3 → proposing_draws c (proposed c step) ≡ (if step == 0 then 1431655766 else 1431655765)
proposals-counted c zero small =
    count-between (λ u. proposed c (step_of u) == proposed c 0) 0 1431655766 4294967296 4294967296 (omega arith) (omega arith)
    (steps-between c 0 0 1431655766 small (λ u less. absurd (omega arith)) (λ u past less. omega arith) (λ u more within. omega arith))
proposals-counted c (suc zero) small =
    count-between (λ u. proposed c (step_of u) == proposed c 1) 1431655766 2863311531 4294967296 4294967296 (omega arith) (omega arith)
    (steps-between c 1 1431655766 2863311531 small (λ u less. omega arith) (λ u past less. omega arith) (λ u more within. omega arith))
proposals-counted c (suc (suc zero)) small =
    count-between (λ u. proposed c (step_of u) == proposed c 2) 2863311531 4294967296 4294967296 4294967296 (omega arith) (omega arith)
    (steps-between c 2 2863311531 4294967296 small (λ u less. omega arith) (λ u past less. omega arith) (λ u more within. absurd (omega arith)))
proposals-counted c (suc (suc (suc n))) small = absurd (omega arith)

-- ---- a proposal and the one back

pub record IsThird (n : ℕ) : Type 0 where
  pub least : 1431655765 ≤ n
  pub most : n ≤ 1431655766

either-third : (b : Bool) → IsThird (if b then 1431655766 else 1431655765)
either-third true = record { least = omega arith; most = omega arith }
either-third false = record { least = omega arith; most = omega arith }

pub proposals-third : (c other step : ℕ) → step < 3 → proposed c step ≡ other → IsThird (proposing_draws c other)
proposals-third c other step small leads =
    let counted = ap (proposing_draws c) (sym leads) ∙ proposals-counted c step small in
    rw counted (either-third (step == 0))

pub back-step : (c step : ℕ) → c < 4 → step < 3 → proposed (proposed c step) (2 - step) ≡ c
back-step c step colour small = omega arith

pub step-leads_on : (c step : ℕ) → c < 4 → step < 3 → c ≢ proposed c step
step-leads_on c step colour small e = omega arith
