-- What holds of runs over banks: their report at their end and their checkpoint are those of the serial dynamics from the states that the
-- packed states stand for, and bank 0 has the samples below 64.
use Rattle.std.specs.Prelude.{◌≡◌, ℕ, ◌<◌, ◌≤◌, ◌*◌, List, [], ◌∷◌, length, All}
use Rattle.run_checkpoint.specs.BankEncoding.{BanksFit, BanksStand}
use Rattle.run_plan.specs.declared.run_file.Orders.{Orders}
use Rattle.scalar_rule.specs.Plan.{Plan, slots_of}
use Rattle.scalar_rule.specs.Records.{measured_from}
use Rattle.scalar_rule.specs.Serial.{serial}
use Rattle.scalar_rule.specs.declared.sample.Sample.{Sample}
use Rattle.plane_sweep.specs.declared.stand.Stand.{Stand}
use Rattle.glass_engine.specs.Banks.{Bank, banks_measured, banks_slots, banks_report, banks_checkpoint}
use Rattle.glass_engine.specs.BankRuns.{bank_runs, runs_of, run_report, runs_checkpoint}
use Rattle.glass_engine.specs.Runs.{DoneView, IsEnd}
use Rattle.glass_engine.specs.declared.run.SaveKind.{SaveKind}

-- banks of these plans, and the states that their samples start with
unfoldable pub banks_with : List Plan → List (ℕ → Sample) → List Bank
banks_with [] starts = []
banks_with (plan ∷ plans) [] = []
banks_with (plan ∷ plans) (start ∷ starts) = record { plan = plan; start = start } ∷ banks_with plans starts

-- every plan has a slot
abbrev pub HaveSlots : List Plan → Type 0
HaveSlots plans = All (λ plan. 1 ≤ slots_of plan) plans

-- packed states at one epoch that stand for these states of all samples
pub record StandForBanks (plans : List Plan) (stands : List Stand) (starts : List (ℕ → Sample)) : Type 0 where
  pub epoch : ℕ
  pub fit : BanksFit epoch plans stands
  pub slots : HaveSlots plans
  pub stand : BanksStand plans starts stands

abbrev pub BanksReportIsSerial : Type 0
BanksReportIsSerial = (plans : List Plan) (stands : List Stand) (starts : List (ℕ → Sample)) (orders : Orders) (until : ℕ) (kind : SaveKind)
    → (ds : List DoneView) → orders.samples ≤ 64 * length plans → StandForBanks plans stands starts
    → runs_of ds ≡ bank_runs plans stands orders until kind → All (λ (d : DoneView). IsEnd d.run d.ended) ds
    → run_report ds ≡ banks_report (banks_with plans starts) orders until

abbrev pub BanksCheckpointIsSerial : Type 0
BanksCheckpointIsSerial = (plans : List Plan) (stands : List Stand) (starts : List (ℕ → Sample)) (orders : Orders) (until : ℕ) (kind : SaveKind)
    → 1 ≤ length plans → StandForBanks plans stands starts
    → runs_checkpoint (bank_runs plans stands orders until kind) ≡ banks_checkpoint (banks_with plans starts) until

-- the records and the final states of the samples below 64 are those of bank 0 alone, whatever banks there are beside it
pub record IsOfBank0 (bank : Bank) (banks : List Bank) (b : ℕ) : Type 0 where
  pub records : (f : ℕ) → banks_measured (bank ∷ banks) b f ≡ measured_from bank.plan bank.start b f
  pub slots : (e : ℕ) → banks_slots (bank ∷ banks) e b ≡ (serial bank.plan (bank.start b) e).slots

abbrev pub SamplesBelow64AreOfBank0 : Type 0
SamplesBelow64AreOfBank0 = (bank : Bank) (banks : List Bank) (b : ℕ) → b < 64 → IsOfBank0 bank banks b
