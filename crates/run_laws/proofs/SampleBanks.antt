-- A sample of a run of several banks is one of its own bank.
use Rattle.std.proofs.Common.{arith, ◌≡◌, ℕ, suc, ◌+◌, ◌-◌, ◌*◌, ◌<◌, ◌≤◌, List, [], ◌∷◌, ◌++◌, length, ap, ◌∙◌}
use Rattle.glass_engine.specs.BankLaws.{banks_with}
use Rattle.glass_engine.specs.Banks.{Bank, of_sample}
use Rattle.glass_engine.proofs.BankLaws.{of-first, of-next}
use Rattle.scalar_rule.specs.Opening.{opening}
use Rattle.scalar_rule.specs.Plan.{Plan}
use Rattle.scalar_rule.specs.Records.{measured_from}
use Rattle.scalar_rule.specs.Serial.{serial}
use Rattle.scalar_rule.specs.declared.sample.Start.{Start}
use Rattle.glass_main.specs.ManyBanks.{PlannedBanks, openings_from, banks_opened_by}
use Rattle.run_laws.specs.SampleBanks.{SamplesAreOfTheirBanks}

-- bank g as a run of several begins it
opened : Plan → Start → ℕ → Bank
opened plan start g = record { plan = plan; start = opening plan start g }

-- of banks of which the first has number g
of-bank : {A : Type 0} (none : A) (give : Bank → ℕ → A) (start : Start) (g : ℕ) (before more : List Plan) (plan : Plan) (m : ℕ) → m < 64
    → of_sample none give (banks_with (before ++ plan ∷ more) (openings_from g (before ++ plan ∷ more) start)) (64 * length before + m) ≡ give (opened plan start (g + length before)) m
unfolding banks_with openings_from opened
of-bank none give start g [] more plan m small =
    let others = banks_with more (openings_from (g + 1) more start) in
    let here : 64 * 0 + m ≡ m = omega arith in
    let number : g ≡ g + 0 = omega arith in
    ap (of_sample none give (opened plan start g ∷ others)) here
    ∙ of-first none give (opened plan start g) others m small
    ∙ ap (λ h. give (opened plan start h) m) number
of-bank none give start g (p ∷ before) more plan m small =
    let n = length before in
    let plans = before ++ plan ∷ more in
    let others = banks_with plans (openings_from (g + 1) plans start) in
    let past : 64 ≤ 64 * suc n + m = omega arith in
    let back : 64 * suc n + m - 64 ≡ 64 * n + m = omega arith in
    let number : (g + 1) + n ≡ g + suc n = omega arith in
    of-next none give (opened p start g) others (64 * suc n + m) past
    ∙ ap (of_sample none give others) back
    ∙ of-bank none give start (g + 1) before more plan m small
    ∙ ap (λ h. give (opened plan start h) m) number

of-planned : {A : Type 0} (none : A) (give : Bank → ℕ → A) (planned : PlannedBanks) (before more : List Plan) (plan : Plan) (m : ℕ) → planned.plans ≡ before ++ plan ∷ more → m < 64
    → of_sample none give (banks_with planned.plans (banks_opened_by planned)) (64 * length before + m) ≡ give (opened plan planned.orders.start (length before)) m
of-planned none give planned before more plan m is small =
    let start = planned.orders.start in
    let number : 0 + length before ≡ length before = omega arith in
    ap (λ ps. of_sample none give (banks_with ps (openings_from 0 ps start)) (64 * length before + m)) is
    ∙ of-bank none give start 0 before more plan m small
    ∙ ap (λ h. give (opened plan start h) m) number

pub of-their-banks : SamplesAreOfTheirBanks
unfolding opened
of-their-banks planned before more plan m is small = record {
  records = λ f. of-planned [] (λ (x : Bank) k. measured_from x.plan x.start k f) planned before more plan m is small;
  slots = λ e. of-planned [] (λ (x : Bank) k. (serial x.plan (x.start k) e).slots) planned before more plan m is small;
  state = λ none e. of-planned none (λ (x : Bank) k. serial x.plan (x.start k) e) planned before more plan m is small;
}
