-- The report of a run, as a report that can be read.
use Rattle.std.specs.Prelude.{◌≡◌, ℕ, ◌*◌, ◌<◌, ◌≤◌, unsigned_abs, List, [], ◌∷◌, length, All}
use Rattle.spin_model.specs.Lattice.{volume}
use Rattle.spin_model.specs.Limits.{last_epoch}
use Rattle.scalar_rule.specs.Plan.{Plan, IsLawfulPlan, slots_of}
use Rattle.scalar_rule.specs.declared.sample.Record.{Record}
use Rattle.scalar_rule.specs.declared.sample.Sample.{Sample}
use Rattle.plane_sweep.specs.Uneven.{positions_of}
use Rattle.plane_sweep.specs.declared.uneven.RaggedStand.{RaggedStand}
use Rattle.run_plan.specs.RunFile.{AreLawfulOrders}
use Rattle.exchange_board.specs.Views.{RaggedEndedView}
use Rattle.glass_engine.specs.BankRuns.{run_report}
use Rattle.glass_engine.specs.Runs.{RunView, IsEnd}
use Rattle.sample_average.specs.LawfulReport.{Report, Spells}
use Rattle.glass_main.specs.Beginnings.{Beginning, Uneven, run_text}
use Rattle.glass_main.specs.ManyBanks.{PlannedBanks, bank_count, starts_at, banks_text}
use Rattle.glass_main.specs.ResumeLaws.{AreBankPlans, AreBeginnings}
use Rattle.glass_main.specs.StopLaws.{IsBeginning, reached_by}
use Rattle.glass_main.specs.Stops.{kept_of, ComesTo, stopped_text}
use Rattle.glass_main.specs.declared.planned.Planned.{Planned}

-- some lawful report has these bytes as its lines
abbrev pub IsLawfulText : List ℕ → Type 0
IsLawfulText bytes = (r : Report) × Spells bytes r

-- energies from -3V to 3V, an overlap from -V to V, and labels that are slots' numbers
pub record IsWithin (plan : Plan) (values : Record) : Type 0 where
  pub first_energy : unsigned_abs values.first_energy ≤ 3 * volume plan.size
  pub second_energy : unsigned_abs values.second_energy ≤ 3 * volume plan.size
  pub overlap : unsigned_abs values.overlap ≤ volume plan.size
  pub first_replica : values.first_replica < slots_of plan
  pub second_replica : values.second_replica < slots_of plan

-- the records that a run begins with ahead are within these ranges; from states at one epoch it begins with none
abbrev pub KeepsRanges : Plan → Beginning → Type 0
KeepsRanges plan from = All (IsWithin plan) (kept_of from)

-- ---- one bank

-- a run of any lawful plan and orders prints a lawful report, to any epoch that no slot is past when it begins: from its opening
-- states, or from what a checkpoint is whose records are within the ranges
abbrev pub RunReportsAreLawful : Type 0
RunReportsAreLawful = (planned : Planned) (from : Beginning) (until : ℕ) → IsLawfulPlan planned.plan → AreLawfulOrders planned.orders → IsBeginning planned from → KeepsRanges planned.plan from
    → reached_by from ≤ until → until ≤ last_epoch → IsLawfulText (run_text planned from until)

-- a run that came to a state where it stopped printed a lawful report, and the records that it keeps ahead are within the ranges
pub record StopsLawfully (planned : Planned) (from : Beginning) (until : ℕ) (came : RaggedStand) : Type 0 where
  pub report : IsLawfulText (stopped_text planned from until (positions_of came))
  pub kept : KeepsRanges planned.plan (Uneven came)

-- so does every run that may stop, from such a beginning; and so the next one has such a beginning again
abbrev pub StoppedReportsAreLawful : Type 0
StoppedReportsAreLawful = (planned : Planned) (from : Beginning) (until takes : ℕ) (came : RaggedStand) → IsLawfulPlan planned.plan → AreLawfulOrders planned.orders → IsBeginning planned from
    → KeepsRanges planned.plan from → until ≤ last_epoch → ComesTo planned from until takes came → StopsLawfully planned from until came

-- the same of the engine's runs: of any that was driven to its end or stopped, also from slots at epochs of their own, where the
-- records that its starting state has ahead are within the ranges
abbrev pub EndedReportsAreLawful : Type 0
EndedReportsAreLawful = (run : RunView) (d : RaggedEndedView) → IsEnd run d → All (IsWithin run.plan) run.base.pending → IsLawfulText (run_report (record { run = run; ended = d } ∷ []))

-- ---- several banks

-- a run of 2 to 4 banks, as many as its samples are kept in, prints a lawful report: from its opening states or from states at
-- one epoch that fit, to that epoch or a later one
abbrev pub BanksReportsAreLawful : Type 0
BanksReportsAreLawful = (planned : PlannedBanks) (starts : List (ℕ → Sample)) (until : ℕ) → AreBankPlans planned.plans → length planned.plans ≡ bank_count planned.orders.samples
    → AreBeginnings planned starts → starts_at starts ≤ until → until ≤ last_epoch → IsLawfulText (banks_text planned starts until)
