-- The report of a run of several banks is a lawful report.
use Rattle.std.proofs.Common.{arith, ◌≡◌, inl, inr, ℕ, ◌+◌, ◌-◌, ◌*◌, ◌<◌, ◌≤◌, List, [], ◌∷◌, length, sym, subst, ◌∙◌, unsigned_abs}
use Rattle.std.proofs.lemmas.Bool.{cases_lt}
use Rattle.std.proofs.lemmas.List.Elements.{All-head}
use Rattle.glass_engine.specs.BankLaws.{banks_with}
use Rattle.glass_engine.specs.Banks.{Bank, banks_measured, banks_slots, banks_report}
use Rattle.glass_engine.proofs.BankLaws.{of-first, of-next}
use Rattle.run_checkpoint.specs.BankEncoding.{HaveShape, AreBanks}
use Rattle.run_plan.specs.declared.run_file.Orders.{Orders}
use Rattle.scalar_rule.specs.Plan.{Plan, IsLawfulPlan, slots_of}
use Rattle.scalar_rule.specs.Records.{measured_from}
use Rattle.scalar_rule.specs.declared.sample.Record.{Record}
use Rattle.scalar_rule.specs.declared.sample.Sample.{Sample}
use Rattle.scalar_rule.specs.declared.sample.Start.{Start}
use Rattle.spin_model.specs.Lattice.{volume}
use Rattle.run_laws.specs.LawfulRuns.{IsLawfulText, IsWithin}
use Rattle.glass_main.specs.ManyBanks.{PlannedBanks, bank_count, openings_from, starts_at, banks_text}
use Rattle.glass_main.specs.ResumeLaws.{AreBankPlans, AreBeginnings}
use Rattle.run_laws.proofs.LawfulReports.{composed, IsMeasured, KeepLabels, opening-kept, stood-kept, level-measured}

-- ---- what the banks begin with

-- in each bank the samples have the plan's pairs, and labels that permute
unfoldable BanksKeep : List Plan → List (ℕ → Sample) → Type 0
BanksKeep [] [] = Unit {0}
BanksKeep (plan ∷ plans) (start ∷ starts) = KeepLabels plan start × BanksKeep plans starts
BanksKeep _ _ = ⊥

opened-keep : (g : ℕ) (plans : List Plan) (start : Start) → BanksKeep plans (openings_from g plans start)
unfolding BanksKeep openings_from
opened-keep g [] start = tt
opened-keep g (plan ∷ plans) start = (opening-kept plan start g, opened-keep (g + 1) plans start)

stood-keep : (c : ℕ) (plans : List Plan) (starts : List (ℕ → Sample)) → AreBanks c plans starts → BanksKeep plans starts
unfolding BanksKeep AreBanks
stood-keep c [] [] are = tt
stood-keep c [] (start ∷ starts) are = absurd are
stood-keep c (plan ∷ plans) [] are = absurd are
stood-keep c (plan ∷ plans) (start ∷ starts) are = (stood-kept plan start are.0, stood-keep c plans starts are.2)

begun-keep : (planned : PlannedBanks) (starts : List (ℕ → Sample)) → AreBeginnings planned starts → BanksKeep planned.plans starts
begun-keep planned starts begin = elim begin [
  | inl is ↦ subst (BanksKeep planned.plans) (sym is) (opened-keep 0 planned.plans planned.orders.start)
  | inr held ↦ stood-keep held.0 planned.plans starts held.1
]

-- ---- what is measured

-- plans of one size and with as many slots have the same ranges
same-ranges : (p q : Plan) (r : Record) → p.size ≡ q.size → slots_of p ≡ slots_of q → IsWithin p r → IsWithin q r
same-ranges p q r size slots w = record {
  first_energy = subst (λ l. unsigned_abs r.first_energy ≤ 3 * volume l) size w.first_energy;
  second_energy = subst (λ l. unsigned_abs r.second_energy ≤ 3 * volume l) size w.second_energy;
  overlap = subst (λ l. unsigned_abs r.overlap ≤ volume l) size w.overlap;
  first_replica = subst (λ n. r.first_replica < n) slots w.first_replica;
  second_replica = subst (λ n. r.second_replica < n) slots w.second_replica;
}

same-measured : (p q : Plan) (rs : List Record) → p.size ≡ q.size → slots_of p ≡ slots_of q → IsMeasured p rs → IsMeasured q rs
same-measured p q rs size slots is = record {
  sized = is.sized ∙ slots;
  range = λ t below. same-ranges p q _ size slots (is.range t (subst (λ n. t < n) (sym slots) below));
}

-- each sample of the whole, by the plan of one of its banks
banks-measured : (plan : Plan) (plans : List Plan) (starts : List (ℕ → Sample)) (b f : ℕ) → HaveShape plan.size (slots_of plan) plans → BanksKeep plans starts → b < 64 * length plans
    → IsMeasured plan (banks_measured (banks_with plans starts) b f)
unfolding HaveShape BanksKeep banks_with
banks-measured plan [] starts b f shape keep below = absurd (omega (arith, below))
banks-measured plan (p ∷ ps) [] b f shape keep below = absurd keep
banks-measured plan (p ∷ ps) (s ∷ ss) b f shape keep below =
    let give : Bank → ℕ → List Record = λ bank m. measured_from bank.plan bank.start m f in
    let one : Bank = record { plan = p; start = s } in
    elim (cases_lt b 64) [
      | inl small ↦ subst (IsMeasured plan) (sym (of-first [] give one (banks_with ps ss) b small))
          (same-measured p plan (measured_from p s b f) shape.0 shape.1 (level-measured p s b f small keep.0))
      | inr over ↦ subst (IsMeasured plan) (sym (of-next [] give one (banks_with ps ss) b over))
          (banks-measured plan ps ss (b - 64) f shape.2 keep.1 (omega (arith, below, over)))
    ]

-- ---- all together

text-lawful : (orders : Orders) (until : ℕ) (plans : List Plan) (starts : List (ℕ → Sample)) → AreBankPlans plans → length plans ≡ bank_count orders.samples → BanksKeep plans starts
    → starts_at starts ≤ until → until ≤ 1000000000 → IsLawfulText (banks_report (banks_with plans starts) orders until)
unfolding banks_report banks_with starts_at BanksKeep HaveShape
text-lawful orders until [] starts plans count keep rising within = absurd (omega (arith, plans.several))
text-lawful orders until (p ∷ ps) [] plans count keep rising within = absurd keep
text-lawful orders until (p ∷ ps) (s ∷ ss) plans count keep rising within =
    let all : List Plan = p ∷ ps in
    let banks : List Bank = banks_with all (s ∷ ss) in
    let own = plans.shape in
    let shape : HaveShape p.size (slots_of p) all =
    subst (λ l. HaveShape l (slots_of p) all) (sym own.shape.0) (subst (λ n. HaveShape own.size n all) (sym own.shape.1) own.shape) in
    composed p orders.samples orders.every (s 0).epoch until (banks_measured banks) (banks_slots banks until) orders.spins (All-head IsLawfulPlan p ps plans.lawful)
    (omega (arith, count, plans.several)) (omega (arith, count, plans.few)) rising within
    (λ b f less. banks-measured p all (s ∷ ss) b f shape keep (omega (arith, less, count)))

pub banks-lawful : (planned : PlannedBanks) (starts : List (ℕ → Sample)) (until : ℕ) → AreBankPlans planned.plans → length planned.plans ≡ bank_count planned.orders.samples → AreBeginnings planned starts
    → starts_at starts ≤ until → until ≤ 1000000000 → IsLawfulText (banks_text planned starts until)
banks-lawful planned starts until plans count begins rising within =
    text-lawful planned.orders until planned.plans starts plans count (begun-keep planned starts begins) rising within
