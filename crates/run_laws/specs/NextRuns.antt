-- What a run whose name the store holds what another one saved begins with: what the clauses `done` and `lawful` say of the one
-- is all that it takes.
use Rattle.std.specs.Prelude.{◌≡◌, ℕ, ◌≤◌, List, Some, Ok}
use Rattle.std.specs.FinMap as finmap
use Rattle.glass_edges.specs.Contents.{Files}
use Rattle.plane_sweep.specs.declared.uneven.RaggedStand.{RaggedStand}
use Rattle.run_checkpoint.specs.BankEncoding.{AreBanks}
use Rattle.run_checkpoint.specs.Encoding.{AreBankStates}
use Rattle.scalar_rule.specs.declared.sample.Sample.{Sample}
use Rattle.spin_model.specs.Limits.{last_epoch}
use Rattle.glass_main.specs.Beginnings.{Beginning, Level, Uneven, state_at, run_checkpoint}
use Rattle.glass_main.specs.LawfulRequests.{IsLawfulRun, IsLawfulRunOfBanks}
use Rattle.glass_main.specs.ManyBanks.{PlannedBanks, banks_at, banks_bytes}
use Rattle.glass_main.specs.Request.{beginning_at, banks_beginning_at}
use Rattle.glass_main.specs.ResumeLaws.{GoesOnFrom, BanksGoOnFrom}
use Rattle.glass_main.specs.Stops.{ComesTo, stopped_checkpoint}
use Rattle.glass_main.specs.declared.planned.Planned.{Planned}

-- the next run goes on from what a run to epoch e saved; and by the name that has it this is what it begins with
pub record BeginsByName (planned : Planned) (from : Beginning) (e until : ℕ) (name : List ℕ) (files : Files) : Type 0 where
  pub next : GoesOnFrom planned from e until
  pub begins : beginning_at (Some name) planned until files ≡ Ok (Level next.later)

-- the same of several banks
pub record BanksBeginByName (planned : PlannedBanks) (starts : List (ℕ → Sample)) (e until : ℕ) (name : List ℕ) (files : Files) : Type 0 where
  pub next : BanksGoOnFrom planned starts e until
  pub begin : banks_beginning_at (Some name) planned until files ≡ Ok next.later

-- a lawful run to epoch e, whose states there fit, saved them under a name, and the next one is of the same plan and orders, to
-- that epoch or a later one; so of a run that stopped, whose last epoch was e; so of several banks
pub record LawfulRunsGoOn : Type 0 where
  pub level : (planned : Planned) (from : Beginning) (e until : ℕ) (name : List ℕ) (files : Files) → IsLawfulRun planned from e
      → AreBankStates planned.plan (λ b. state_at planned.plan from e b) → finmap.get files name ≡ Some (run_checkpoint planned from e) → e ≤ until
      → BeginsByName planned from e until name files
  pub stopped : (planned : Planned) (from : Beginning) (e until takes : ℕ) (came : RaggedStand) (name : List ℕ) (files : Files) → IsLawfulRun planned from e
      → ComesTo planned from e takes came → finmap.get files name ≡ Some (stopped_checkpoint planned came) → e ≤ until → until ≤ last_epoch
      → beginning_at (Some name) planned until files ≡ Ok (Uneven came)
  pub banks : (planned : PlannedBanks) (starts : List (ℕ → Sample)) (e until : ℕ) (name : List ℕ) (files : Files) → IsLawfulRunOfBanks planned starts e
      → AreBanks e planned.plans (banks_at planned.plans starts e) → finmap.get files name ≡ Some (banks_bytes planned starts e) → e ≤ until
      → BanksBeginByName planned starts e until name files
