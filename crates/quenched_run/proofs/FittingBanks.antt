-- Banks that fit their plans, one by one.
use Rattle.std.proofs.Common.{◌≡◌, ℕ, zero, suc, ◌<◌, List, [], ◌∷◌, length, get_or, ap, refl, sym, ◌∙◌, arith}
use Rattle.scalar_rule.specs.Plan.{Plan}
use Rattle.plane_sweep.specs.Packed.{StandFits}
use Rattle.plane_sweep.specs.declared.stand.Stand.{Stand}
use Rattle.run_checkpoint.specs.BankEncoding.{BanksFit}
use Rattle.quenched_run.specs.Quenches.{AreInTime}
use Rattle.quenched_run.specs.Steps.{AreStill, CanSweep, IsStill}

pub fit-long : (epoch : ℕ) (plans : List Plan) (banks : List Stand) → BanksFit epoch plans banks → length plans ≡ length banks
unfolding BanksFit
fit-long epoch [] [] fit = refl
fit-long epoch [] (x ∷ xs) fit = absurd fit
fit-long epoch (plan ∷ plans) [] fit = absurd fit
fit-long epoch (plan ∷ plans) (x ∷ xs) fit = ap suc (fit-long epoch plans xs fit.2)

pub fit-at : (epoch : ℕ) (plans : List Plan) (banks : List Stand) (g : ℕ) (d : Plan) (none : Stand) → BanksFit epoch plans banks → g < length plans
    → StandFits (get_or plans g d) (get_or banks g none)
unfolding BanksFit
fit-at epoch [] banks g d none fit within = absurd (omega (arith, within))
fit-at epoch (plan ∷ plans) [] g d none fit within = absurd fit
fit-at epoch (plan ∷ plans) (x ∷ xs) zero d none fit within = fit.0
fit-at epoch (plan ∷ plans) (x ∷ xs) (suc g) d none fit within = fit-at epoch plans xs g d none fit.2 (omega (arith, within))

pub epoch-at : (epoch : ℕ) (plans : List Plan) (banks : List Stand) (g : ℕ) (none : Stand) → BanksFit epoch plans banks → g < length plans
    → (get_or banks g none).epoch ≡ epoch
unfolding BanksFit
epoch-at epoch [] banks g none fit within = absurd (omega (arith, within))
epoch-at epoch (plan ∷ plans) [] g none fit within = absurd fit
epoch-at epoch (plan ∷ plans) (x ∷ xs) zero none fit within = fit.1
epoch-at epoch (plan ∷ plans) (x ∷ xs) (suc g) none fit within = epoch-at epoch plans xs g none fit.2 (omega (arith, within))

pub fit-from : (epoch : ℕ) (plans : List Plan) (banks : List Stand) → length plans ≡ length banks
    → ((g : ℕ) (d : Plan) (none : Stand) → g < length plans → StandFits (get_or plans g d) (get_or banks g none) × ((get_or banks g none).epoch ≡ epoch))
    → BanksFit epoch plans banks
unfolding BanksFit
fit-from epoch [] [] long each = tt
fit-from epoch [] (x ∷ xs) long each = absurd (omega (arith, long))
fit-from epoch (plan ∷ plans) [] long each = absurd (omega (arith, long))
fit-from epoch (plan ∷ plans) (x ∷ xs) long each =
    let here = each 0 plan x (omega arith) in
    (here.0, here.1, fit-from epoch plans xs (omega (arith, long)) (λ g d none within. each (suc g) d none (omega (arith, within))))

-- ---- a step

pub can-sweep : (plans : List Plan) (time : ℕ) (banks : List Stand) (g : ℕ) (none : Stand) → AreInTime plans time banks → g < length banks
    → CanSweep plans time g (get_or banks g none)
can-sweep plans time banks g none are within =
    let inside : g < length plans = omega (arith, within, fit-long are.epoch plans banks are.fit) in
    record {
      within = inside;
      fits = λ d. fit-at are.epoch plans banks g d none are.fit inside;
      in_time = omega (arith, epoch-at are.epoch plans banks g none are.fit inside, are.in_time);
    }

pub step-of : (plans : List Plan) (time : ℕ) (old new : List Stand) (g : ℕ) (d : Plan) (none : Stand) → length plans ≡ length old → AreStill plans time old new → g < length plans
    → IsStill (get_or plans g d) time (get_or old g none) (get_or new g none)
step-of plans time old new g d none long swept within = swept.done g none (omega (arith, within, long)) d

pub still-fit : (plans : List Plan) (time : ℕ) (old new : List Stand) → length plans ≡ length old → AreStill plans time old new → BanksFit time plans new
still-fit plans time old new long swept = fit-from time plans new (long ∙ sym swept.sized) (λ g d none within.
    let step = step-of plans time old new g d none long swept within in
    (step.fits, step.epoch))
