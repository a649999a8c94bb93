-- A run of several banks that goes on from what another one saved: both are one run.
use Rattle.std.proofs.Common.{arith, ◌≡◌, inl, inr, ℕ, ◌+◌, ◌-◌, ◌<◌, ◌≤◌, cond, List, [], ◌∷◌, ◌++◌, length, refl, sym, ap, ap₂, ◌∙◌, subst}
use Rattle.std.proofs.lemmas.Bool.{cases_lt}
use Rattle.glass_engine.specs.BankLaws.{banks_with}
use Rattle.glass_engine.specs.Banks.{Bank, of_sample, banks_measured, banks_slots, banks_report}
use Rattle.glass_engine.specs.Report.{rows_in_order, all_spins}
use Rattle.glass_engine.proofs.BankLaws.{of-first, of-next}
use Rattle.glass_engine.proofs.Reporting.{spins-same}
use Rattle.plane_sweep.specs.Packed.{part}
use Rattle.report_text.specs.Lines.{header_line, end_line}
use Rattle.run_checkpoint.specs.BankEncoding.{banks_header, banks_encoding, banks_bytes as encodings, AreBanks}
use Rattle.run_checkpoint.specs.Kinds.{sealed}
use Rattle.run_checkpoint.specs.Laws.{AreSameBanks}
use Rattle.run_checkpoint.proofs.LevelClauses.{encoding-same}
use Rattle.run_plan.specs.declared.run_file.Orders.{Orders}
use Rattle.scalar_rule.specs.Epoch.{epoch_records}
use Rattle.scalar_rule.specs.Plan.{Plan}
use Rattle.scalar_rule.specs.Serial.{serial}
use Rattle.scalar_rule.specs.declared.sample.Sample.{Sample}
use Rattle.scalar_rule.specs.declared.sample.Start.{Start}
use Rattle.scalar_rule.proofs.Resuming.{serial-serial, epoch-serial}
use Rattle.glass_main.specs.ManyBanks.{PlannedBanks, openings_from, starts_at, banks_at, banks_bytes}
use Rattle.glass_main.specs.ResumeLaws.{AreBankPlans, AreBeginnings, banks_rows, banks_spins, BanksGoOnFrom}
use Rattle.glass_main.proofs.AddingUp.{rows-split}
use Rattle.glass_main.proofs.ReadRuns.{saved-banks-read}
use Rattle.glass_engine.proofs.Pieces.{rows-same}

-- ---- states at one epoch

-- those of the samples of each bank
unfoldable pub AreAt : ℕ → List Plan → List (ℕ → Sample) → Type 0
AreAt c [] [] = Unit {0}
AreAt c (plan ∷ plans) (start ∷ starts) = ((b : ℕ) → b < 64 → (start b).epoch ≡ c) × AreAt c plans starts
AreAt _ _ _ = ⊥

pub opened-at : (g : ℕ) (plans : List Plan) (start : Start) → AreAt 0 plans (openings_from g plans start)
unfolding AreAt openings_from
opened-at g [] start = tt
opened-at g (plan ∷ plans) start = ((λ b small. refl), opened-at (g + 1) plans start)

pub banks-at : (c : ℕ) (plans : List Plan) (starts : List (ℕ → Sample)) → AreBanks c plans starts → AreAt c plans starts
unfolding AreAt AreBanks part
banks-at c [] [] are = tt
banks-at c [] (start ∷ starts) are = absurd are
banks-at c (plan ∷ plans) [] are = absurd are
banks-at c (plan ∷ plans) (start ∷ starts) are =
    let epoch : (b : ℕ) → b < 64 → are.0.stand.epoch ≡ (start b).epoch = λ b small. ap (λ (s : Sample). s.epoch) (are.0.stands b small) in
    ((λ b small. sym (epoch b small) ∙ (epoch 0 (omega arith) ∙ are.1)), banks-at c plans starts are.2)

-- a run begins at one epoch
pub begin-at : (planned : PlannedBanks) (starts : List (ℕ → Sample)) → AreBeginnings planned starts → (c : ℕ) × AreAt c planned.plans starts
begin-at planned starts begin = elim begin [
  | inl is ↦ (0, subst (AreAt 0 planned.plans) (sym is) (opened-at 0 planned.plans planned.orders.start))
  | inr held ↦ (held.0, banks-at held.0 planned.plans starts held.1)
]

pub first-at : (c : ℕ) (plans : List Plan) (starts : List (ℕ → Sample)) → 0 < length plans → AreAt c plans starts → starts_at starts ≡ c
unfolding AreAt starts_at
first-at c [] starts some at = absurd (omega arith)
first-at c (plan ∷ plans) [] some at = absurd at
first-at c (plan ∷ plans) (start ∷ starts) some at = at.0 0 (omega arith)

-- the first of a list of plans
unfoldable plan-or : Plan → List Plan → Plan
plan-or none [] = none
plan-or none (plan ∷ plans) = plan

-- ---- what goes on from epoch e

module _ (c e : ℕ) (upto : c ≤ e) where
  later-at : (plans : List Plan) (starts later : List (ℕ → Sample)) → AreAt c plans starts → AreSameBanks later (banks_at plans starts e) → AreAt e plans later
  unfolding AreAt AreSameBanks banks_with
  later-at [] [] [] at same = tt
  later-at [] [] (l ∷ ls) at same = absurd same
  later-at [] (s ∷ ss) later at same = absurd at
  later-at (p ∷ ps) [] later at same = absurd at
  later-at (p ∷ ps) (s ∷ ss) [] at same = absurd same
  later-at (p ∷ ps) (s ∷ ss) (l ∷ ls) at same = (
    (λ b small. ap (λ (x : Sample). x.epoch) (same.0 b small) ∙ epoch-serial p (s b) e (omega (arith, at.0 b small, upto))),
    later-at ps ss ls at.1 same.1,
  )

  -- what is had of a sample's state at a later epoch is had from both
  sample-later : {A : Type 0} (none : A) (give : Sample → Plan → A) (f : ℕ) → e ≤ f → (plans : List Plan) (starts later : List (ℕ → Sample)) (b : ℕ) → AreAt c plans starts → AreSameBanks later (banks_at plans starts e)
      → of_sample none (λ x m. give (serial x.plan (x.start m) f) x.plan) (banks_with plans starts) b ≡ of_sample none (λ x m. give (serial x.plan (x.start m) f) x.plan) (banks_with plans later) b
  unfolding of_sample banks_with AreAt AreSameBanks
  sample-later none give f past [] starts later b at same = refl
  sample-later none give f past (p ∷ ps) [] later b at same = absurd at
  sample-later none give f past (p ∷ ps) (s ∷ ss) [] b at same = absurd same
  sample-later none give f past (p ∷ ps) (s ∷ ss) (l ∷ ls) b at same =
      let G : Bank → ℕ → _ = λ x m. give (serial x.plan (x.start m) f) x.plan in
      let one : Bank = record { plan = p; start = s } in
      let two : Bank = record { plan = p; start = l } in
      elim (cases_lt b 64) [
        | inl below ↦ of-first none G one (banks_with ps ss) b below
            ∙ ap (λ x. give x p) (sym (ap (λ x. serial p x f) (same.0 b below) ∙ serial-serial p (s b) e f (omega (arith, at.0 b below, upto)) past))
            ∙ sym (of-first none G two (banks_with ps ls) b below)
        | inr over ↦ of-next none G one (banks_with ps ss) b over ∙ sample-later none give f past ps ss ls (b - 64) at.1 same.1
            ∙ sym (of-next none G two (banks_with ps ls) b over)
      ]

  bytes-later : (f : ℕ) → e ≤ f → (plans : List Plan) (starts later : List (ℕ → Sample)) → AreAt c plans starts → AreSameBanks later (banks_at plans starts e)
      → encodings plans (banks_at plans starts f) ≡ encodings plans (banks_at plans later f)
  unfolding encodings AreAt AreSameBanks banks_with
  bytes-later f past [] starts later at same = refl
  bytes-later f past (p ∷ ps) [] later at same = absurd at
  bytes-later f past (p ∷ ps) (s ∷ ss) [] at same = absurd same
  bytes-later f past (p ∷ ps) (s ∷ ss) (l ∷ ls) at same =
      ap₂ (λ u v. u ++ v)
      (encoding-same p (λ b. serial p (s b) f) (λ b. serial p (l b) f)
      (λ b below. sym (ap (λ x. serial p x f) (same.0 b below) ∙ serial-serial p (s b) e f (omega (arith, at.0 b below, upto)) past)))
      (bytes-later f past ps ss ls at.1 same.1)

-- states that agree with states that fit do so too
banks-agree : (epoch : ℕ) (plans : List Plan) (states others : List (ℕ → Sample)) → AreBanks epoch plans states → AreSameBanks others states → AreBanks epoch plans others
unfolding AreBanks AreSameBanks
banks-agree epoch [] [] [] are same = tt
banks-agree epoch [] [] (o ∷ os) are same = absurd same
banks-agree epoch [] (s ∷ ss) others are same = absurd are
banks-agree epoch (p ∷ ps) [] others are same = absurd are
banks-agree epoch (p ∷ ps) (s ∷ ss) [] are same = absurd same
banks-agree epoch (p ∷ ps) (s ∷ ss) (o ∷ os) are same = (
  record { stand = are.0.stand; fits = are.0.fits; stands = λ b small. are.0.stands b small ∙ sym (same.0 b small) },
  ap (λ (x : Sample). x.epoch) (same.0 0 (omega arith)) ∙ are.1,
  banks-agree epoch ps ss os are.2 same.1,
)

-- ---- all together

-- the report in its parts
pub text-parts : (o : Orders) (until c : ℕ) (plan : Plan) (more plans : List Plan) (starts : List (ℕ → Sample)) → plans ≡ plan ∷ more → AreAt c plans starts
    → banks_report (banks_with plans starts) o until
    ≡ header_line plan o.samples (starts_at starts) until
    ++ rows_in_order (banks_measured (banks_with plans starts)) o.samples o.every (starts_at starts) until
    ++ end_line until
    ++ cond o.spins (all_spins plan o.samples (banks_slots (banks_with plans starts) until)) []
unfolding banks_report banks_with starts_at AreAt plan-or
text-parts o until c plan more [] starts is at = absurd (omega (arith, ap length is))
text-parts o until c plan more (p ∷ ps) [] is at = absurd at
text-parts o until c plan more (p ∷ ps) (s ∷ ss) is at =
    let first : p ≡ plan = ap (plan-or plan) is in
    let bs = banks_with (p ∷ ps) (s ∷ ss) in
    let rows = rows_in_order (banks_measured bs) o.samples o.every (s 0).epoch until in
    ap (λ x. header_line x o.samples (s 0).epoch until ++ rows ++ end_line until ++ cond o.spins (all_spins x o.samples (banks_slots bs until)) []) first

-- a run that goes on from states at epoch e, which are those of one that begins with `starts`: what both print and save
pub record GoOn (planned : PlannedBanks) (starts later : List (ℕ → Sample)) (e until : ℕ) : Type 0 where
  pub at : AreAt e planned.plans later
  pub rows : banks_rows planned starts until ≡ banks_rows planned starts e ++ banks_rows planned later until
  pub spins : (plan : Plan) → banks_spins plan planned starts until ≡ banks_spins plan planned later until
  pub checkpoint : banks_bytes planned starts until ≡ banks_bytes planned later until

pub go-on : (planned : PlannedBanks) (starts later : List (ℕ → Sample)) (c e until : ℕ) → 0 < length planned.plans → AreAt c planned.plans starts → c ≤ e → e ≤ until
    → AreSameBanks later (banks_at planned.plans starts e) → GoOn planned starts later e until
unfolding banks_encoding
go-on planned starts later c e until some at before within same =
    let ps = planned.plans in
    let o = planned.orders in
    let first = first-at c ps starts some at in
    let next = later-at c e before ps starts later at same in
    let from = first-at e ps later some next in
    let m = banks_measured (banks_with ps starts) in
    let n = banks_measured (banks_with ps later) in
    let rest : rows_in_order m o.samples o.every e until ≡ rows_in_order n o.samples o.every e until =
    rows-same m n o.samples o.every e until (λ b f since on small. sample-later c e before [] (λ s p. epoch_records p s) f since ps starts later b at same) in
    record {
      at = next;
      rows = rows-split m o.samples o.every (starts_at starts) e until (omega (arith, before, first)) within
          ∙ ap (λ v. rows_in_order m o.samples o.every (starts_at starts) e ++ v) (rest ∙ ap (λ k. rows_in_order n o.samples o.every k until) (sym from));
      spins = λ plan. ap (λ z. cond o.spins z []) (spins-same plan o.samples (banks_slots (banks_with ps starts) until) (banks_slots (banks_with ps later) until)
          (λ b small. sample-later c e before [] (λ s p. s.slots) until within ps starts later b at same));
      checkpoint = ap (λ bytes. sealed (banks_header (length ps) ++ bytes)) (bytes-later c e before until within ps starts later at same);
    }

pub saved-banks-go-on : (planned : PlannedBanks) (starts : List (ℕ → Sample)) (e until : ℕ) → AreBankPlans planned.plans → AreBeginnings planned starts → starts_at starts ≤ e → e ≤ until
    → AreBanks e planned.plans (banks_at planned.plans starts e) → BanksGoOnFrom planned starts e until
saved-banks-go-on planned starts e until plans begin upto within fit =
    let ps = planned.plans in
    let o = planned.orders in
    let some : 0 < length ps = omega (arith, plans.several) in
    let begun = begin-at planned starts begin in
    let first = first-at begun.0 ps starts some begun.1 in
    let r = saved-banks-read planned e until (banks_at ps starts e) plans fit within in
    let both = go-on planned starts r.starts begun.0 e until some begun.1 (omega (arith, upto, first)) within r.same in
    record {
      later = r.starts;
      read = r.read;
      fit = banks-agree e ps (banks_at ps starts e) r.starts fit r.same;
      same = r.same;
      report = λ plan more is. text-parts o until begun.0 plan more ps starts is begun.1
          ∙ ap₂ (λ u v. header_line plan o.samples (starts_at starts) until ++ u ++ end_line until ++ v) both.rows (both.spins plan);
      checkpoint = both.checkpoint;
    }
