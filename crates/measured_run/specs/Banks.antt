-- A bank of a run.
use Rattle.std.specs.Prelude.{ℕ, List, map}
use Rattle.scalar_rule.specs.Plan.{Plan}
use Rattle.scalar_rule.specs.declared.sample.Sample.{Sample}
use Rattle.plane_sweep.specs.Packed.{part}
use Rattle.plane_sweep.specs.declared.stand.Stand.{Stand}

-- its plan, the packed state from which it starts, of how many epochs the last is measured, and the epoch to which it goes
pub record BankView : Type 0 where
  pub plan : Plan
  pub base : Stand
  pub every : ℕ
  pub until : ℕ

-- a bank on its way
pub record BankAt : Type 0 where
  pub bank : BankView
  pub epoch : ℕ

-- sample b of the packed state from which a bank starts
abbrev pub start_of : Plan → Stand → ℕ → Sample
start_of plan base b = part plan.size b base

abbrev pub plans_in : List BankView → List Plan
plans_in banks = map (λ (bank : BankView). bank.plan) banks

abbrev pub bases_in : List BankView → List Stand
bases_in banks = map (λ (bank : BankView). bank.base) banks
