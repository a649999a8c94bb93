-- What holds of the checkpoints of states at one epoch, of 64 samples or of several banks of 64, from which runs go on.
use Rattle.std.specs.Prelude.{◌≡◌, ◌⊎◌, ℕ, ◌<◌, ◌≤◌, List, [], ◌∷◌, ◌++◌, if◌then◌else◌, All, length, Ok}
use Rattle.glass_engine.specs.BankLaws.{banks_with}
use Rattle.glass_engine.specs.Banks.{banks_measured, banks_slots}
use Rattle.glass_engine.specs.Report.{rows_in_order, all_spins}
use Rattle.report_text.specs.Lines.{header_line, end_line}
use Rattle.run_checkpoint.specs.BankEncoding.{banks_encoding, HaveOneShape, AreBanks}
use Rattle.run_checkpoint.specs.Encoding.{encoding, AreBankStates}
use Rattle.run_checkpoint.specs.Laws.{AreSameBanks}
use Rattle.run_plan.specs.RunFile.{AreLawfulOrders}
use Rattle.scalar_rule.specs.Plan.{Plan, IsLawfulPlan}
use Rattle.scalar_rule.specs.declared.sample.Sample.{Sample}
use Rattle.glass_main.specs.Beginnings.{Beginning, Level, resumed_by, state_at, run_checkpoint}
use Rattle.glass_main.specs.CheckpointBytes.{AreBytes}
use Rattle.glass_main.specs.ManyBanks.{PlannedBanks, banks_opened_by, banks_resumed_by, starts_at, banks_text, banks_at, banks_bytes}
use Rattle.glass_main.specs.StopLaws.{IsBeginning, reached_by, AddUp}
use Rattle.glass_main.specs.declared.planned.Planned.{Planned}

-- ---- 64 samples

-- a run to an epoch goes on from the bytes as these states of the 64 samples at one epoch
pub record IsReadAs (planned : Planned) (until : ℕ) (bytes : List ℕ) (states : ℕ → Sample) : Type 0 where
  pub start : ℕ → Sample
  pub read : resumed_by planned until bytes ≡ Ok (Level start)
  pub same : (b : ℕ) → b < 64 → start b ≡ states b

-- the checkpoint of states of 64 samples at one epoch, that fit and are in time, is what the next run goes on from as those
-- states
abbrev pub SavedRunsAreRead : Type 0
SavedRunsAreRead = (planned : Planned) (until : ℕ) (states : ℕ → Sample) → IsLawfulPlan planned.plan → AreBankStates planned.plan states → (states 0).epoch ≤ until
    → IsReadAs planned until (encoding planned.plan states) states

-- the next run goes on from what a run to epoch e saved, the states there; its report and that of the run before add up to that
-- of one run, whose checkpoint is the next run's
pub record GoesOnFrom (planned : Planned) (from : Beginning) (e until : ℕ) : Type 0 where
  pub later : ℕ → Sample
  pub read : resumed_by planned until (run_checkpoint planned from e) ≡ Ok (Level later)
  pub at : (later 0).epoch ≡ e
  pub same : (b : ℕ) → b < 64 → later b ≡ state_at planned.plan from e b
  pub adds_up : AddUp planned until from (Level later ∷ [])

-- a run to an epoch, whose states there fit, and the next one
abbrev pub SavedRunsGoOn : Type 0
SavedRunsGoOn = (planned : Planned) (from : Beginning) (e until : ℕ) → IsLawfulPlan planned.plan → AreLawfulOrders planned.orders → IsBeginning planned from → reached_by from ≤ e → e ≤ until
    → AreBankStates planned.plan (λ b. state_at planned.plan from e b) → GoesOnFrom planned from e until

-- ---- several banks

-- lawful plans of 2 to 4 banks, all of one size and with as many slots
pub record AreBankPlans (plans : List Plan) : Type 0 where
  pub several : 2 ≤ length plans
  pub few : length plans ≤ 4
  pub lawful : All IsLawfulPlan plans
  pub shape : HaveOneShape plans

-- the bytes are the checkpoint of these states of each bank, which are at one epoch, in time
pub record IsEncodingOfBanks (plans : List Plan) (until : ℕ) (bytes : List ℕ) (states : List (ℕ → Sample)) : Type 0 where
  pub epoch : ℕ
  pub states_are : AreBanks epoch plans states
  pub in_time : epoch ≤ until
  pub bytes_are : bytes ≡ banks_encoding plans states

-- the bytes that a run of several banks goes on from are the checkpoint of what it goes on from: states of each bank at one
-- epoch in time
abbrev pub AcceptedBanksAreEncodings : Type 0
AcceptedBanksAreEncodings = (planned : PlannedBanks) (until : ℕ) (bytes : List ℕ) (starts : List (ℕ → Sample)) → AreBankPlans planned.plans
    → AreBytes bytes → banks_resumed_by planned until bytes ≡ Ok starts → IsEncodingOfBanks planned.plans until bytes starts

-- a run to an epoch goes on from the bytes as states that agree with these in the 64 samples of each bank
pub record AreReadAs (planned : PlannedBanks) (until : ℕ) (bytes : List ℕ) (states : List (ℕ → Sample)) : Type 0 where
  pub starts : List (ℕ → Sample)
  pub read : banks_resumed_by planned until bytes ≡ Ok starts
  pub same : AreSameBanks starts states

-- the checkpoint of states of several banks at one epoch, that fit and are in time, is what the next run goes on from as those
-- states
abbrev pub SavedBanksAreRead : Type 0
SavedBanksAreRead = (planned : PlannedBanks) (epoch until : ℕ) (states : List (ℕ → Sample)) → AreBankPlans planned.plans → AreBanks epoch planned.plans states → epoch ≤ until
    → AreReadAs planned until (banks_encoding planned.plans states) states

-- ---- runs of several banks that go on from one another

-- what such a run can begin with: its opening states, or states at one epoch that fit, as those are that a checkpoint holds
abbrev pub AreBeginnings : PlannedBanks → List (ℕ → Sample) → Type 0
AreBeginnings planned starts = (starts ≡ banks_opened_by planned) ⊎ ((c : ℕ) × AreBanks c planned.plans starts)

-- the rows that it prints of the epochs below e
abbrev pub banks_rows : PlannedBanks → List (ℕ → Sample) → ℕ → List ℕ
banks_rows planned starts e = rows_in_order (banks_measured (banks_with planned.plans starts)) planned.orders.samples planned.orders.every (starts_at starts) e

-- the spins that it prints at epoch e, where they are ordered, of so many slots and so great a lattice as a plan has
abbrev pub banks_spins : Plan → PlannedBanks → List (ℕ → Sample) → ℕ → List ℕ
banks_spins plan planned starts e =
    if planned.orders.spins then all_spins plan planned.orders.samples (banks_slots (banks_with planned.plans starts) e) else []

-- the next run goes on from what a run to epoch e saved, the states there, which fit; the report of one run is: its header, the
-- rows of both, one after the other, and the end and the spins of the next; and its checkpoint is the next run's
pub record BanksGoOnFrom (planned : PlannedBanks) (starts : List (ℕ → Sample)) (e until : ℕ) : Type 0 where
  pub later : List (ℕ → Sample)
  pub read : banks_resumed_by planned until (banks_bytes planned starts e) ≡ Ok later
  pub fit : AreBanks e planned.plans later
  pub same : AreSameBanks later (banks_at planned.plans starts e)
  pub report : (plan : Plan) (more : List Plan) → planned.plans ≡ plan ∷ more → banks_text planned starts until
      ≡ header_line plan planned.orders.samples (starts_at starts) until
      ++ (banks_rows planned starts e ++ banks_rows planned later until)
      ++ end_line until
      ++ banks_spins plan planned later until
  pub checkpoint : banks_bytes planned starts until ≡ banks_bytes planned later until

-- a run of several banks to an epoch, whose states there fit, and the next one
abbrev pub SavedBanksGoOn : Type 0
SavedBanksGoOn = (planned : PlannedBanks) (starts : List (ℕ → Sample)) (e until : ℕ) → AreBankPlans planned.plans → AreBeginnings planned starts → starts_at starts ≤ e → e ≤ until
    → AreBanks e planned.plans (banks_at planned.plans starts e) → BanksGoOnFrom planned starts e until
