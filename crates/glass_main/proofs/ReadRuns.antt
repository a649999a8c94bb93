-- A checkpoint of states at one epoch, of 64 samples or of several banks, is what the next run reads, and what is read is one.
use Rattle.std.proofs.Common.{arith, ◌≡◌, ℕ, ◌<◌, ◌≤◌, false, List, [], ◌∷◌, drop, Ok, refl, sym, ap, ◌∙◌, subst}
use Rattle.std.specs.Str.{bytes_eq}
use Rattle.plane_sweep.specs.Packed.{part, StandFits}
use Rattle.plane_sweep.specs.declared.stand.Stand.{Stand}
use Rattle.run_checkpoint.specs.BankDecoding.{banks_refusal, banks_in, banks_decoded}
use Rattle.run_checkpoint.specs.BankEncoding.{bank_len, banks_encoding, banks_parts, AreBanks, BanksFit, BanksStand}
use Rattle.run_checkpoint.specs.Encoding.{encoding, AreBankStates}
use Rattle.run_checkpoint.specs.Kinds.{level_kind, sealed, uneven_kind}
use Rattle.run_checkpoint.specs.Laws.{AreSameBanks}
use Rattle.run_checkpoint.specs.UnevenDecoding.{is_uneven, any_refusal}
use Rattle.run_checkpoint.proofs.BankClauses.{none-encoded, states-read}
use Rattle.run_checkpoint.proofs.LevelClauses.{packed-none, states-packed, states-epoch}
use Rattle.run_checkpoint.proofs.LevelForm.{packed_body, form-long, form-again, stand-again}
use Rattle.run_checkpoint.proofs.Tested.{long-enough}
use Rattle.run_plan.specs.RunFile.{AreLawfulOrders}
use Rattle.scalar_rule.specs.Plan.{Plan, IsLawfulPlan, slots_of}
use Rattle.scalar_rule.specs.declared.sample.Sample.{Sample}
use Rattle.scalar_rule.proofs.Resuming.{epoch-serial}
use Rattle.glass_main.proofs.AddingUp.{add-up}
use Rattle.glass_main.specs.Beginnings.{Beginning, Level, Uneven, resumed_by, state_at}
use Rattle.glass_main.specs.ManyBanks.{PlannedBanks, banks_resumed_by}
use Rattle.glass_main.specs.ResumeLaws.{IsReadAs, GoesOnFrom, AreBankPlans, IsEncodingOfBanks, AreReadAs}
use Rattle.glass_main.specs.StopLaws.{IsBeginning, reached_by, AreLeft}
use Rattle.glass_main.specs.declared.planned.Planned.{Planned}
use Rattle.glass_edges.proofs.FirstRefusals.{is-found, unless-ok}
use Rattle.glass_edges.proofs.NumberBytes.{IsBytes}

-- ---- 64 samples

packed-read : (planned : Planned) (until : ℕ) (stand : Stand) → IsLawfulPlan planned.plan → StandFits planned.plan stand → stand.epoch ≤ until
    → resumed_by planned until (sealed (packed_body planned.plan stand)) ≡ Ok (Level (λ b. part planned.plan.size b stand))
unfolding resumed_by any_refusal
packed-read planned until stand lawful fits le =
    let plan = planned.plan in
    let bytes = sealed (packed_body plan stand) in
    let has = form-again plan stand lawful fits in
    let kind : is_uneven bytes ≡ false = ap (λ x. bytes_eq x uneven_kind) has.kind ∙ apart in
    let long = long-enough 88 bytes (omega (arith, has.len, form-long plan.size (slots_of plan))) in
    rw (← long, kind, ← packed-none plan until stand lawful fits le, stand-again plan stand fits) refl
  where
    apart : bytes_eq level_kind uneven_kind ≡ false
    apart = refl

pub saved-run-read : (planned : Planned) (until : ℕ) (states : ℕ → Sample) → IsLawfulPlan planned.plan → AreBankStates planned.plan states → (states 0).epoch ≤ until
    → IsReadAs planned until (encoding planned.plan states) states
saved-run-read planned until states lawful are time = record {
  start = λ b. part planned.plan.size b are.stand;
  read = ap (resumed_by planned until) (states-packed planned.plan states are lawful)
      ∙ packed-read planned until are.stand lawful are.fits (omega (arith, time, states-epoch planned.plan states are));
  same = are.stands;
}

-- the state at an epoch is there
state-epoch : (plan : Plan) (from : Beginning) (e : ℕ) → reached_by from ≤ e → (state_at plan from e 0).epoch ≡ e
state-epoch plan (Level start) e upto = epoch-serial plan (start 0) e upto
state-epoch plan (Uneven stand) e upto = refl

pub saved-run-goes-on : (planned : Planned) (from : Beginning) (e until : ℕ) → IsLawfulPlan planned.plan → AreLawfulOrders planned.orders → IsBeginning planned from → reached_by from ≤ e → e ≤ until
    → AreBankStates planned.plan (λ b. state_at planned.plan from e b) → GoesOnFrom planned from e until
unfolding AreLeft
saved-run-goes-on planned from e until lawful orders begins upto within fit =
    let plan = planned.plan in
    let states : ℕ → Sample = λ b. state_at plan from e b in
    let epoch = state-epoch plan from e upto in
    let r = saved-run-read planned until states lawful fit (omega (arith, within, epoch)) in
    let first : (r.start 0).epoch ≡ e = ap (λ (s : Sample). s.epoch) (r.same 0 (omega arith)) ∙ epoch in
    let same : (b : ℕ) → b < 64 → r.start b ≡ state_at plan from (r.start 0).epoch b = λ b small. r.same b small ∙ ap (λ n. state_at plan from n b) (sym first) in
    let since : reached_by from ≤ (r.start 0).epoch = omega (arith, upto, first) in
    let late : (r.start 0).epoch ≤ until = omega (arith, within, first) in
    record {
      later = r.start;
      read = r.read;
      at = first;
      same = r.same;
      adds_up = add-up planned until from (Level r.start ∷ []) lawful orders begins (omega (arith, upto, within)) ((since, same), late, tt);
    }

-- ---- several banks

-- packed states at one epoch stand for states of each bank at that epoch
parts-are : (epoch : ℕ) (plans : List Plan) (stands : List Stand) → BanksFit epoch plans stands → AreBanks epoch plans (banks_parts plans stands)
unfolding BanksFit AreBanks banks_parts part
parts-are epoch [] [] fit = tt
parts-are epoch [] (stand ∷ stands) fit = absurd fit
parts-are epoch (plan ∷ plans) [] fit = absurd fit
parts-are epoch (plan ∷ plans) (stand ∷ stands) fit =
    (record { stand = stand; fits = fit.0; stands = λ b small. refl }, fit.1, parts-are epoch plans stands fit.2)

pub accepted-banks : (planned : PlannedBanks) (until : ℕ) (bytes : List ℕ) (starts : List (ℕ → Sample)) → AreBankPlans planned.plans → IsBytes bytes
    → banks_resumed_by planned until bytes ≡ Ok starts → IsEncodingOfBanks planned.plans until bytes starts
unfolding banks_resumed_by
accepted-banks planned until bytes starts plans are is =
    let stands = banks_in (bank_len planned.plans) planned.plans (drop 12 bytes) in
    let h = unless-ok (banks_refusal planned.plans until bytes) (banks_parts planned.plans stands) starts is in
    let e = none-encoded planned.plans until bytes (omega (arith, plans.several)) plans.lawful are h.0 in
    let encoded : IsEncodingOfBanks planned.plans until bytes (banks_parts planned.plans stands) =
    record { epoch = e.epoch; states_are = parts-are e.epoch planned.plans stands e.fit; in_time = e.in_time; bytes_are = e.bytes_are } in
    subst (IsEncodingOfBanks planned.plans until bytes) h.1 encoded

-- packed states that stand for the states are taken apart to them
parts-same : (plans : List Plan) (states : List (ℕ → Sample)) (stands : List Stand) → BanksStand plans states stands → AreSameBanks (banks_parts plans stands) states
unfolding BanksStand AreSameBanks banks_parts
parts-same [] [] [] stand = tt
parts-same [] [] (x ∷ xs) stand = absurd stand
parts-same [] (s ∷ ss) [] stand = absurd stand
parts-same [] (s ∷ ss) (x ∷ xs) stand = absurd stand
parts-same (p ∷ ps) [] [] stand = absurd stand
parts-same (p ∷ ps) [] (x ∷ xs) stand = absurd stand
parts-same (p ∷ ps) (s ∷ ss) [] stand = absurd stand
parts-same (p ∷ ps) (s ∷ ss) (x ∷ xs) stand = (stand.0, parts-same ps ss xs stand.1)

pub saved-banks-read : (planned : PlannedBanks) (epoch until : ℕ) (states : List (ℕ → Sample)) → AreBankPlans planned.plans → AreBanks epoch planned.plans states → epoch ≤ until
    → AreReadAs planned until (banks_encoding planned.plans states) states
unfolding banks_decoded banks_resumed_by
saved-banks-read planned epoch until states plans are time =
    let bytes = banks_encoding planned.plans states in
    let refusal = banks_refusal planned.plans until bytes in
    let stands = banks_in (bank_len planned.plans) planned.plans (drop 12 bytes) in
    let packed = states-read planned.plans epoch until states (omega (arith, plans.several)) plans.few plans.lawful plans.shape are time in
    let h = unless-ok refusal stands packed.0 packed.1 in
    record {
      starts = banks_parts planned.plans packed.0;
      read = is-found refusal (banks_parts planned.plans stands) (banks_parts planned.plans packed.0) h.0 (ap (banks_parts planned.plans) h.1);
      same = parts-same planned.plans states packed.0 packed.2;
    }
