-- What a run of 1 to 4 banks keeps.
use Rattle.std.specs.Prelude.{◌≡◌, ℕ, ◌≤◌, List, [], ◌∷◌, length, All, vec_capacity}
use Rattle.spin_model.specs.Limits.{every_take, last_epoch}
use Rattle.run_checkpoint.specs.Encoding.{flattened}
use Rattle.run_plan.specs.declared.run_file.Orders.{Orders}
use Rattle.scalar_rule.specs.Plan.{slots_of}
use Rattle.plane_sweep.specs.Packed.{StandFits}
use Rattle.plane_sweep.specs.Uneven.{level_stand}
use Rattle.glass_engine.specs.BankRuns.{runs_of, AreBankOrders, HaveSamples}
use Rattle.glass_engine.specs.KeptSaving.{KeepsSaving}
use Rattle.glass_engine.specs.Runs.{RunView, DoneView, IsEnd}
use Rattle.glass_engine.specs.declared.done.Done.TheInside as done
use Rattle.glass_engine.specs.declared.run.Run.TheInside as run

-- ---- several banks

-- what all banks share: the size, the number of slots, and the epochs from which and to which they go
pub record Shared : Type 0 where
  pub size : ℕ
  pub slots : ℕ
  pub from : ℕ
  pub until : ℕ

-- a bank's run starts at rest at the one epoch, in a state that fits its plan, and isn't asked to stop
pub record IsBankRun (shared : Shared) (orders : Orders) (run : RunView) : Type 0 where
  pub size : run.plan.size ≡ shared.size
  pub slots : slots_of run.plan ≡ shared.slots
  pub level : run.base ≡ level_stand (flattened run.base)
  pub fits : StandFits run.plan (flattened run.base)
  pub from : (flattened run.base).epoch ≡ shared.from
  pub until : run.until ≡ shared.until
  pub every : run.orders.every ≡ orders.every
  pub spins : run.orders.spins ≡ orders.spins
  pub takes : run.takes ≡ every_take

pub record AreBankRuns (orders : Orders) (runs : List RunView) : Type 0 where
  pub orders_are : AreBankOrders (length runs) orders
  pub shared : Shared
  pub in_time : shared.from ≤ shared.until
  pub short : shared.until ≤ last_epoch
  pub each : All (IsBankRun shared orders) runs
  pub samples : HaveSamples orders.samples runs

-- ---- of one bank or of several

abbrev pub AreRuns : List RunView → Type 0
AreRuns [] = ⊥
AreRuns (run ∷ []) = Unit {0}
AreRuns (run ∷ next ∷ runs) = (orders : Orders) × AreBankRuns orders (run ∷ next ∷ runs)

-- ---- before and after the drive

abbrev pub run_view : run.Inside → List RunView
run_view r = r.banks.items

pub record KeepsRun (r : run.Inside) : Type 0 where
  pub runs : AreRuns r.banks.items
  pub saving : KeepsSaving r.banks.items r.saving
  pub driven : r.driven.items ≡ []
  pub room : length r.banks.items ≤ vec_capacity r.driven

abbrev pub done_view : done.Inside → List DoneView
done_view d = d.banks.items

pub record KeepsDone (d : done.Inside) : Type 0 where
  pub runs : AreRuns (runs_of d.banks.items)
  pub ended : All (λ (x : DoneView). IsEnd x.run x.ended) d.banks.items
  pub saving : KeepsSaving (runs_of d.banks.items) d.saving
