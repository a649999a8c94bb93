-- What holds of the samples of a run of several banks: those below 64 are the samples of the same run with 64.
use Rattle.std.specs.Prelude.{◌≡◌, ℕ, ◌<◌, List, Ok}
use Rattle.glass_edges.specs.Contents.{Files}
use Rattle.glass_engine.specs.BankLaws.{banks_with}
use Rattle.glass_engine.specs.BankRuns.{for_samples}
use Rattle.glass_engine.specs.Banks.{Bank, of_sample, banks_measured, banks_slots}
use Rattle.run_plan.specs.declared.run_file.RunFile.{RunFile}
use Rattle.scalar_rule.specs.Opening.{opening}
use Rattle.scalar_rule.specs.Records.{measured_from}
use Rattle.scalar_rule.specs.Serial.{serial}
use Rattle.scalar_rule.specs.declared.sample.Sample.{Sample}
use Rattle.glass_main.specs.ManyBanks.{PlannedBanks, banks_opened_by}
use Rattle.glass_main.specs.Request.{plan_after_file, banks_after_file}
use Rattle.glass_main.specs.declared.planned.Planned.{Planned}

-- the same run file for 64 samples
abbrev pub file_for_64 : RunFile → RunFile
file_for_64 file = record {
  lattice = file.lattice;
  kind = file.kind;
  rules = file.rules;
  swaps = file.swaps;
  couplings = file.couplings;
  sweeps = file.sweeps;
  seed = file.seed;
  orders = for_samples 64 file.orders;
}

-- the whole state of sample b at epoch e: its slots, the words of its pairs, its bit and its epoch; `none` where there is no such
-- bank
abbrev pub sample_state : Sample → List Bank → ℕ → ℕ → Sample
sample_state none banks e b = of_sample none (λ (bank : Bank) m. serial bank.plan (bank.start m) e) banks b

-- from the opening states the records of a sample at each epoch, its slots and its whole state are those of the run of one bank
pub record IsOfOneBank (one : Planned) (planned : PlannedBanks) (b : ℕ) : Type 0 where
  pub records : (f : ℕ) → banks_measured (banks_with planned.plans (banks_opened_by planned)) b f ≡ measured_from one.plan (opening one.plan one.orders.start 0) b f
  pub slots : (e : ℕ) → banks_slots (banks_with planned.plans (banks_opened_by planned)) e b ≡ (serial one.plan (opening one.plan one.orders.start 0 b) e).slots
  pub state : (none : Sample) (e : ℕ) → sample_state none (banks_with planned.plans (banks_opened_by planned)) e b ≡ serial one.plan (opening one.plan one.orders.start 0 b) e

-- whatever the files are
abbrev pub SamplesBelow64AreOfOneBank : Type 0
SamplesBelow64AreOfOneBank = (file : RunFile) (files : Files) (planned : PlannedBanks) (one : Planned) (b : ℕ) → 64 < file.orders.samples
    → banks_after_file file files ≡ Ok planned → plan_after_file (file_for_64 file) files ≡ Ok one → b < 64 → IsOfOneBank one planned b
