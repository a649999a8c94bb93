-- The step of a request that gives what the run starts from.
use Rattle.std.specs.Prelude.{◌≡◌, ◌<◌, ◌≤◌, ℕ, List, Option, IfSome, Result, Ok, Err, IfOk, OnOk, IfErr}
use Rattle.plane_sweep.specs.Uneven.{positions_of, RaggedStandFits}
use Rattle.plane_sweep.specs.declared.stand.Stand.{Stand}
use Rattle.plane_sweep.specs.declared.uneven.RaggedStand.{RaggedStand}
use Rattle.scalar_rule.specs.Plan.{Plan, slots_of}
use Rattle.scalar_rule.specs.Positions.{deepest_of}
use Rattle.run_checkpoint.specs.BankEncoding.{BanksFit}
use Rattle.run_checkpoint.specs.declared.refused.CheckpointRefused.{CheckpointRefused}
use Rattle.run_checkpoint.specs.declared.refused.CheckpointRefused.TheVariants as checkpoint
use Rattle.glass_main.specs.Endings.{IsOfCheckpoint, FetchesCheckpoint}
use Rattle.glass_main.specs.Gathers.{Stops}
use Rattle.glass_main.specs.Outside.{Store}
use Rattle.glass_main.specs.declared.planned.Planned.{Planned}
use Rattle.glass_main.specs.declared.refusal.Refusal.{Refusal}
use Rattle.glass_main.specs.declared.refusal.Refusal.TheVariants.{Checkpoint}
use Rattle.glass_main.specs.declared.ending.Ending.{Ending}
use Rattle.glass_main.specs.declared.ending.Ending.TheVariants.{Refused, NoMemory}

-- a packed state from which a run to an epoch can go on
pub record IsResumable (planned : Planned) (until : ℕ) (base : RaggedStand) : Type 0 where
  pub some : 0 < slots_of planned.plan
  pub fits : RaggedStandFits planned.plan planned.orders.samples planned.orders.every base
  pub reach : deepest_of (positions_of base) ≤ until

-- packed states of several banks from which a run to an epoch can go on: they fit the plans, and are at one epoch in time
pub record AreResumable (plans : List Plan) (until : ℕ) (stands : List Stand) : Type 0 where
  pub epoch : ℕ
  pub fit : BanksFit epoch plans stands
  pub in_time : epoch ≤ until

-- what the code starts from is what is asked for, packed so
abbrev pub IsBegun : {A B : Type 0} → (A → B → Type 0) → B → Result A Refusal → Type 0
IsBegun Packs base (Ok from) = Packs from base
IsBegun Packs base (Err refusal) = ⊥

-- the bytes of a checkpoint, of which this is asked, are refused so, or are not read for lack of memory
abbrev pub Unresumed : {A : Type 0} → Result A CheckpointRefused → Ending → Type 0
Unresumed asked (Refused told) = (e : CheckpointRefused) × (told ≡ Checkpoint e) × IsOfCheckpoint e × (asked ≡ Err e)
Unresumed asked NoMemory = Unit {0}
Unresumed asked ending = ⊥

-- how a call ends whose checkpoint is refused; a reader's lack of memory is no refusal
abbrev pub ending_of : CheckpointRefused → Ending
ending_of checkpoint.NoMemory = NoMemory
ending_of e = Refused (Checkpoint e)

-- what is made of the bytes of a checkpoint, of which this is asked
abbrev pub Resumes : {A B : Type 0} → (A → B → Type 0) → Result A CheckpointRefused → Result B Ending → Type 0
Resumes {A = A} Packs asked (Ok base) = (from : A) × (asked ≡ Ok from) × Packs from base
Resumes Packs asked (Err ending) = Unresumed asked ending

-- the step gives the state that is asked for and counts no fault, or stops; it fetches at most the checkpoint, and no file changes
pub record Begins {A B : Type 0} (name : Option (List ℕ)) (Packs : A → B → Type 0) (asked : Option (Result A Refusal)) (result : Result B Ending) (old new : Store) : Type 0 where
  pub found : IfOk result (λ base. IfSome asked (IsBegun Packs base))
  pub passed : OnOk result (new.faults ≡ old.faults)
  pub stopped : IfErr result (λ e. Stops asked (FetchesCheckpoint name) e old new)
  pub same : new.holds ≡ old.holds
  pub lengths : new.lengths ≡ old.lengths
  pub later : old.faults ≤ new.faults
