-- Runs of more than 64 samples, which are kept in banks of 64: a plan for each bank, what its samples start from, and what the
-- whole run prints and saves. Sample b of the whole is bit b mod 64 of bank b div 64.
use Rattle.std.specs.Prelude.{ℕ, ◌+◌, ◌/◌, List, [], ◌∷◌, drop, Option, None, Result}
use Rattle.coupling_set.specs.BondsAsWords.{couplings_with, bank_of}
use Rattle.coupling_set.specs.CouplingWords.{CouplingsView}
use Rattle.glass_edges.specs.Refusals.{unless}
use Rattle.glass_engine.specs.BankLaws.{banks_with}
use Rattle.glass_engine.specs.Banks.{banks_report, banks_states}
use Rattle.run_checkpoint.specs.BankDecoding.{banks_refusal, banks_in}
use Rattle.run_checkpoint.specs.BankEncoding.{bank_len, banks_parts, banks_encoding}
use Rattle.run_checkpoint.specs.declared.refused.CheckpointRefused.{CheckpointRefused}
use Rattle.run_plan.specs.Amounts.{amount_refusal}
use Rattle.run_plan.specs.declared.refused.PlanRefused.{PlanRefused}
use Rattle.run_plan.specs.declared.run_file.Orders.{Orders}
use Rattle.plane_sweep.specs.declared.stand.Stand.{Stand}
use Rattle.scalar_rule.specs.Opening.{opening}
use Rattle.scalar_rule.specs.Plan.{Plan}
use Rattle.scalar_rule.specs.declared.sample.Sample.{Sample}
use Rattle.scalar_rule.specs.declared.sample.Start.{Start}
use Rattle.spin_model.specs.Couplings.{Bonds}
use Rattle.spin_model.specs.Steps.{table}

-- ---- what the files say

-- the plan of each bank, bank 0 first, and the orders of the whole
pub record PlannedBanks : Type 0 where
  pub plans : List Plan
  pub orders : Orders

-- how many banks so many samples are kept in
abbrev pub bank_count : ℕ → ℕ
bank_count samples = (samples + 63) / 64

-- the plan of each bank, where J of each sample is given: that of bank g has the couplings of samples 64g to 64g + 63
unfoldable pub bank_plans : (CouplingsView → Plan) → ℕ → ℕ → (ℕ → Bonds) → List Plan
bank_plans plan_of l banks bonds = table (λ g. plan_of (couplings_with l (bank_of g bonds))) banks

-- ---- what the samples start from

-- the opening states of the banks, of which the first has number g
unfoldable pub openings_from : ℕ → List Plan → Start → List (ℕ → Sample)
openings_from g [] start = []
openings_from g (plan ∷ plans) start = opening plan start g ∷ openings_from (g + 1) plans start

abbrev pub banks_opened_by : PlannedBanks → List (ℕ → Sample)
banks_opened_by planned = openings_from 0 planned.plans planned.orders.start

-- the states of the banks that the bytes of a checkpoint are, or their first refusal
unfoldable pub banks_resumed_by : PlannedBanks → ℕ → List ℕ → Result (List (ℕ → Sample)) CheckpointRefused
banks_resumed_by planned until bytes =
    unless (banks_refusal planned.plans until bytes) (banks_parts planned.plans (banks_in (bank_len planned.plans) planned.plans (drop 12 bytes)))

-- the epoch at which they are, that of bank 0 and of all
unfoldable pub starts_at : List (ℕ → Sample) → ℕ
starts_at [] = 0
starts_at (start ∷ starts) = (start 0).epoch

-- that of their packed states
unfoldable pub stands_at : List Stand → ℕ
stands_at [] = 0
stands_at (stand ∷ stands) = stand.epoch

-- ---- what the run prints and saves

-- why a run of all samples is refused for its amount, by the size and the slots that all plans have
unfoldable pub banks_amount_refusal : List Plan → Orders → ℕ → ℕ → Option PlanRefused
banks_amount_refusal [] orders from until = None
banks_amount_refusal (plan ∷ plans) orders from until = amount_refusal plan orders from until

-- the one report of the serial dynamics of each bank's samples
abbrev pub banks_text : PlannedBanks → List (ℕ → Sample) → ℕ → List ℕ
banks_text planned starts until = banks_report (banks_with planned.plans starts) planned.orders until

-- the states of each bank at an epoch, by the same dynamics
abbrev pub banks_at : List Plan → List (ℕ → Sample) → ℕ → List (ℕ → Sample)
banks_at plans starts e = banks_states (banks_with plans starts) e

-- the one checkpoint of these states at the last epoch
abbrev pub banks_bytes : PlannedBanks → List (ℕ → Sample) → ℕ → List ℕ
banks_bytes planned starts until = banks_encoding planned.plans (banks_at planned.plans starts until)
