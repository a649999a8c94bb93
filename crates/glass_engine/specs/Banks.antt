-- Runs of several banks of 64 samples, by the serial dynamics: sample b of the whole is bit b mod 64 of bank b div 64, under
-- the plan of that bank.
use Rattle.std.specs.Prelude.{ℕ, ◌-◌, ◌++◌, nat_lt, if◌then◌else◌, List, [], ◌∷◌, map}
use Rattle.report_text.specs.Lines.{header_line, end_line}
use Rattle.run_checkpoint.specs.BankEncoding.{banks_encoding}
use Rattle.run_plan.specs.declared.run_file.Orders.{Orders}
use Rattle.scalar_rule.specs.Plan.{Plan}
use Rattle.scalar_rule.specs.Records.{measured_from}
use Rattle.scalar_rule.specs.Serial.{serial}
use Rattle.scalar_rule.specs.declared.sample.PlainSlot.{PlainSlot}
use Rattle.scalar_rule.specs.declared.sample.Record.{Record}
use Rattle.scalar_rule.specs.declared.sample.Sample.{Sample}
use Rattle.glass_engine.specs.Report.{rows_in_order, all_spins}

-- a bank: its plan, and the states that its samples start with, which are at one epoch
pub record Bank : Type 0 where
  pub plan : Plan
  pub start : ℕ → Sample

-- what a bank and a bit of it give for sample b; `none` where there is no such bank
unfoldable pub of_sample : {A B : Type 0} → A → (B → ℕ → A) → List B → ℕ → A
of_sample none give [] b = none
of_sample none give (bank ∷ banks) b = if nat_lt b 64 then give bank b else of_sample none give banks (b - 64)

-- what is measured of sample b at epoch f, slot by slot
abbrev pub banks_measured : List Bank → ℕ → ℕ → List Record
banks_measured banks b f = of_sample [] (λ (bank : Bank) m. measured_from bank.plan bank.start m f) banks b

-- the slots of sample b at epoch e
abbrev pub banks_slots : List Bank → ℕ → ℕ → List PlainSlot
banks_slots banks e b = of_sample [] (λ (bank : Bank) m. (serial bank.plan (bank.start m) e).slots) banks b

-- the one report of a run over banks to epoch e: the header, with the number of all samples; the rows in order of epoch,
-- sample, slot; the end; where spins are ordered those of epoch e, after its last exchange. The size, the number of slots and
-- the rule are those of bank 0, and of all
unfoldable pub banks_report : List Bank → Orders → ℕ → List ℕ
banks_report [] orders e = []
banks_report (bank ∷ banks) orders e =
    header_line bank.plan orders.samples (bank.start 0).epoch e
    ++ rows_in_order (banks_measured (bank ∷ banks)) orders.samples orders.every (bank.start 0).epoch e
    ++ end_line e
    ++ (if orders.spins then all_spins bank.plan orders.samples (banks_slots (bank ∷ banks) e) else [])

-- the states of each bank at epoch e
abbrev pub banks_states : List Bank → ℕ → List (ℕ → Sample)
banks_states banks e = map (λ (bank : Bank) (b : ℕ). serial bank.plan (bank.start b) e) banks

-- and as a checkpoint
abbrev pub banks_checkpoint : List Bank → ℕ → List ℕ
banks_checkpoint banks e = banks_encoding (map (λ (bank : Bank). bank.plan) banks) (banks_states banks e)
