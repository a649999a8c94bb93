-- Banks of a run one by one.
use Rattle.std.specs.Prelude.{All}
use Rattle.std.proofs.Common.{◌≡◌, ℕ, zero, suc, ◌+◌, ◌<◌, List, [], ◌∷◌, ◌++◌, length, drop, get_or, ap, ap₂, refl, sym, ◌∙◌, arith, add-one}
use Rattle.std.proofs.Math.Seq.{drop-cons}
use Rattle.std.proofs.lemmas.List.Elements.{All-head, All-tail}
use Rattle.scalar_rule.specs.Plan.{Plan, slots_of}
use Rattle.scalar_rule.specs.Serial.{serial}
use Rattle.scalar_rule.specs.declared.sample.Sample.{Sample}
use Rattle.plane_sweep.specs.Packed.{StandFits, StandsFor}
use Rattle.plane_sweep.specs.declared.stand.Stand.{Stand}
use Rattle.plane_sums.specs.Bins.{SumsView}
use Rattle.run_checkpoint.specs.BankEncoding.{HaveShape, BanksFit, BanksStand, AreBanks}
use Rattle.run_checkpoint.specs.Encoding.{flattened, AreBankStates}
use Rattle.measured_run.specs.Banks.{BankView, plans_in, bases_in}
use Rattle.measured_run.specs.Ends.{HasEnded, HoldsSlots, HoldBanks}
use Rattle.measured_run.specs.Runs.{states_at}
use Rattle.measured_run.proofs.Epochs.{start-epoch}

pub next-of : {A : Type 0} (xs : List A) (g : ℕ) (d : A) → g < length xs → drop g xs ≡ get_or xs g d ∷ drop (g + 1) xs
next-of xs g d within = drop-cons xs g d within ∙ ap (λ k. get_or xs g d ∷ drop k xs) (sym (add-one g))

-- ---- what was summed up

pub hold-push : (banks : List BankView) (sums : List (List SumsView)) (bank : BankView) (slots : List SumsView) → HoldBanks banks sums → HoldsSlots bank slots
    → HoldBanks (banks ++ bank ∷ []) (sums ++ slots ∷ [])
unfolding HoldBanks
hold-push [] [] bank slots hold more = (more, tt)
hold-push [] (x ∷ xs) bank slots hold more = absurd hold
hold-push (b ∷ bs) [] bank slots hold more = absurd hold
hold-push (b ∷ bs) (x ∷ xs) bank slots hold more = (hold.0, hold-push bs xs bank slots hold.1 more)

pub hold-none : HoldBanks [] []
unfolding HoldBanks
hold-none = tt

pub hold-long : (banks : List BankView) (sums : List (List SumsView)) → HoldBanks banks sums → length sums ≡ length banks
unfolding HoldBanks
hold-long [] [] hold = refl
hold-long [] (x ∷ xs) hold = absurd hold
hold-long (b ∷ bs) [] hold = absurd hold
hold-long (b ∷ bs) (x ∷ xs) hold = ap suc (hold-long bs xs hold.1)

pub hold-at : (banks : List BankView) (sums : List (List SumsView)) (g : ℕ) (d : BankView) → g < length banks → HoldBanks banks sums
    → HoldsSlots (get_or banks g d) (get_or sums g [])
unfolding HoldBanks
hold-at [] sums g d within hold = absurd (omega (arith, within))
hold-at (b ∷ bs) [] g d within hold = absurd hold
hold-at (b ∷ bs) (x ∷ xs) zero d within hold = hold.0
hold-at (b ∷ bs) (x ∷ xs) (suc g) d within hold = hold-at bs xs g d (omega (arith, within)) hold.1

-- ---- shapes and starting states

pub shape-at : (size slots : ℕ) (banks : List BankView) (g : ℕ) (d : BankView) → g < length banks → HaveShape size slots (plans_in banks)
    → ((get_or banks g d).plan.size ≡ size) × (slots_of (get_or banks g d).plan ≡ slots)
unfolding HaveShape
shape-at size slots [] g d within shape = absurd (omega (arith, within))
shape-at size slots (b ∷ bs) zero d within shape = (shape.0, shape.1)
shape-at size slots (b ∷ bs) (suc g) d within shape = shape-at size slots bs g d (omega (arith, within)) shape.2

pub stand-at : (banks : List BankView) (starts : List (ℕ → Sample)) (g : ℕ) (d : BankView) (e : ℕ → Sample) → g < length banks
    → BanksStand (plans_in banks) starts (bases_in banks) → StandsFor (get_or banks g d).plan (get_or starts g e) (get_or banks g d).base
unfolding BanksStand
stand-at [] starts g d e within stand = absurd (omega (arith, within))
stand-at (b ∷ bs) [] g d e within stand = absurd stand
stand-at (b ∷ bs) (s ∷ ss) zero d e within stand = stand.0
stand-at (b ∷ bs) (s ∷ ss) (suc g) d e within stand = stand-at bs ss g d e (omega (arith, within)) stand.1

pub stand-long : (banks : List BankView) (starts : List (ℕ → Sample)) → BanksStand (plans_in banks) starts (bases_in banks) → length starts ≡ length banks
unfolding BanksStand
stand-long [] [] stand = refl
stand-long [] (s ∷ ss) stand = absurd stand
stand-long (b ∷ bs) [] stand = absurd stand
stand-long (b ∷ bs) (s ∷ ss) stand = ap suc (stand-long bs ss stand.1)

-- ---- the states at the end

end-state : (bank : BankView) (start : ℕ → Sample) (until : ℕ) → HasEnded bank → bank.until ≡ until → StandsFor bank.plan start bank.base
    → AreBankStates bank.plan (λ b. serial bank.plan (start b) until) × ((serial bank.plan (start 0) until).epoch ≡ until)
end-state bank start until ended last stands =
    let plan = bank.plan in
    let flat = flattened ended.stand in
    let own = λ (b : ℕ) (small : b < 64). ended.end.states b small ∙ ap₂ (λ (s : Sample) (e : ℕ). serial plan s e) (stands b small) last in (
      record { stand = flat; fits = ended.end.fits; stands = own },
      ap (λ (s : Sample). s.epoch) (sym (own 0 (omega arith))) ∙ start-epoch plan flat 0 ∙ ended.end.epoch ∙ last,
    )

pub are-banks : (banks : List BankView) (starts : List (ℕ → Sample)) (until : ℕ) → All HasEnded banks → All (λ (bank : BankView). bank.until ≡ until) banks
    → BanksStand (plans_in banks) starts (bases_in banks) → AreBanks until (plans_in banks) (states_at (plans_in banks) starts until)
unfolding BanksStand AreBanks states_at
are-banks [] [] until ended last stand = tt
are-banks [] (s ∷ ss) until ended last stand = absurd stand
are-banks (b ∷ bs) [] until ended last stand = absurd stand
are-banks (b ∷ bs) (s ∷ ss) until ended last stand =
    let own = end-state b s until (All-head HasEnded b bs ended) (All-head (λ (bank : BankView). bank.until ≡ until) b bs last) stand.0 in
    (own.0, own.1, are-banks bs ss until (All-tail HasEnded b bs ended) (All-tail (λ (bank : BankView). bank.until ≡ until) b bs last) stand.1)

-- ---- the states before the first epoch

pub fit-before : (epoch : ℕ) (plans : List Plan) (before rest : List Stand) (base : Stand) → BanksFit epoch plans (before ++ base ∷ rest) → length before < length plans
unfolding BanksFit
fit-before epoch [] [] rest base fit = absurd fit
fit-before epoch [] (x ∷ xs) rest base fit = absurd fit
fit-before epoch (plan ∷ plans) [] rest base fit = omega arith
fit-before epoch (plan ∷ plans) (x ∷ xs) rest base fit = let more = fit-before epoch plans xs rest base fit.2 in omega (arith, more)

pub fit-at : (epoch : ℕ) (plans : List Plan) (before rest : List Stand) (base : Stand) (d : Plan) → BanksFit epoch plans (before ++ base ∷ rest)
    → (length before < length plans) × StandFits (get_or plans (length before) d) base × (base.epoch ≡ epoch)
unfolding BanksFit
fit-at epoch [] [] rest base d fit = absurd fit
fit-at epoch [] (x ∷ xs) rest base d fit = absurd fit
fit-at epoch (plan ∷ plans) [] rest base d fit = (omega arith, fit.0, fit.1)
fit-at epoch (plan ∷ plans) (x ∷ xs) rest base d fit =
    let more = fit-at epoch plans xs rest base d fit.2 in
    (omega (arith, more.0), more.1, more.2)

pub fit-long : (epoch : ℕ) (plans : List Plan) (stands : List Stand) → BanksFit epoch plans stands → length plans ≡ length stands
unfolding BanksFit
fit-long epoch [] [] fit = refl
fit-long epoch [] (x ∷ xs) fit = absurd fit
fit-long epoch (plan ∷ plans) [] fit = absurd fit
fit-long epoch (plan ∷ plans) (x ∷ xs) fit = ap suc (fit-long epoch plans xs fit.2)
