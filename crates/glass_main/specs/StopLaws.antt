-- What holds of runs that stop and are resumed: they add up to one run.
use Rattle.std.specs.Prelude.{◌≡◌, ◌⊎◌, ℕ, ◌<◌, ◌≤◌, if◌then◌else◌, List, [], ◌∷◌, ◌++◌, Ok}
use Rattle.spin_model.specs.Limits.{last_epoch}
use Rattle.report_text.specs.Lines.{header_line, end_line}
use Rattle.run_checkpoint.specs.Encoding.{encoding, AreBankStates}
use Rattle.run_plan.specs.RunFile.{AreLawfulOrders}
use Rattle.scalar_rule.specs.Plan.{Plan, IsLawfulPlan}
use Rattle.scalar_rule.specs.Positions.{deepest_of}
use Rattle.plane_sweep.specs.Uneven.{positions_of, RaggedStandFits}
use Rattle.plane_sweep.specs.declared.uneven.RaggedStand.{RaggedStand}
use Rattle.glass_main.specs.Beginnings.{Beginning, Level, Uneven, opened_by, begins_at, resumed_by, run_text, state_at, run_checkpoint}
use Rattle.glass_main.specs.CheckpointBytes.{AreBytes}
use Rattle.glass_main.specs.Stops.{Reaches, rows_to, spins_at, stopped_checkpoint}
use Rattle.glass_main.specs.declared.planned.Planned.{Planned}

-- ---- checkpoints

-- bytes of a checkpoint are the encoding of what they are read as, which is in time: of states of the 64 samples at one epoch, or
-- of a packed state that fits and the records that it keeps ahead
abbrev pub IsEncodingOf : Planned → ℕ → List ℕ → Beginning → Type 0
IsEncodingOf planned until bytes (Level start) =
    AreBankStates planned.plan start × ((start 0).epoch ≤ until) × (bytes ≡ encoding planned.plan start)
IsEncodingOf planned until bytes (Uneven stand) =
    RaggedStandFits planned.plan planned.orders.samples planned.orders.every stand
    × (deepest_of (positions_of stand) ≤ until)
    × (bytes ≡ stopped_checkpoint planned stand)

-- bytes that a run goes on from are the encoding of what it goes on from
abbrev pub AcceptedCheckpointsAreEncodings : Type 0
AcceptedCheckpointsAreEncodings = (planned : Planned) (until : ℕ) (bytes : List ℕ) (from : Beginning) → IsLawfulPlan planned.plan → AreLawfulOrders planned.orders
    → AreBytes bytes → resumed_by planned until bytes ≡ Ok from → IsEncodingOf planned until bytes from

-- what a run saved that stopped is what the next one goes on from
abbrev pub SavedStopsAreRead : Type 0
SavedStopsAreRead = (planned : Planned) (until : ℕ) (came : RaggedStand) → IsLawfulPlan planned.plan → AreLawfulOrders planned.orders → until ≤ last_epoch
    → RaggedStandFits planned.plan planned.orders.samples planned.orders.every came → deepest_of (positions_of came) ≤ until
    → resumed_by planned until (stopped_checkpoint planned came) ≡ Ok (Uneven came)

-- ---- runs that go on from one another

-- what a run can begin with: its opening states, or what the bytes of a checkpoint are
abbrev pub IsBeginning : Planned → Beginning → Type 0
IsBeginning planned from =
    (from ≡ opened_by planned) ⊎ ((until : ℕ) × (bytes : List ℕ) × AreBytes bytes × (resumed_by planned until bytes ≡ Ok from))

-- the greatest number of epochs that a slot has completed
abbrev pub reached_by : Beginning → ℕ
reached_by (Level start) = (start 0).epoch
reached_by (Uneven stand) = deepest_of (positions_of stand)

-- what a run leaves for the next one: its states at the epoch to which it went; or a state at which it stopped
abbrev pub Leaves : Plan → ℕ → ℕ → Beginning → Beginning → Type 0
Leaves plan samples every from (Level later) =
    (reached_by from ≤ (later 0).epoch) × ((b : ℕ) → b < 64 → later b ≡ state_at plan from (later 0).epoch b)
Leaves plan samples every from (Uneven came) = Reaches plan samples every from came

-- what runs left, each of which went on from what the one before it had left, none past epoch e
unfoldable pub AreLeft : Plan → ℕ → ℕ → ℕ → Beginning → List Beginning → Type 0
AreLeft plan samples every e from [] = Unit {0}
AreLeft plan samples every e from (next ∷ more) = Leaves plan samples every from next × (reached_by next ≤ e) × AreLeft plan samples every e next more

-- what the last run goes on from
unfoldable pub last_of : Beginning → List Beginning → Beginning
last_of from [] = from
last_of from (next ∷ more) = last_of next more

-- the rows of these runs, one after the other, and of the last one, which goes to epoch e
unfoldable pub all_rows : Plan → ℕ → ℕ → ℕ → Beginning → List Beginning → List ℕ
all_rows plan samples every e from [] = rows_to plan samples every from e
all_rows plan samples every e from (next ∷ more) = rows_to plan samples every from (begins_at next) ++ all_rows plan samples every e next more

-- the report of one run is: its header, the rows of all those runs, one after the other, and the end and the spins of the last;
-- and its checkpoint is that of the last
pub record AddUp (planned : Planned) (until : ℕ) (from : Beginning) (left : List Beginning) : Type 0 where
  pub report : run_text planned from until
      ≡ header_line planned.plan planned.orders.samples (begins_at from) until
      ++ all_rows planned.plan planned.orders.samples planned.orders.every until from left
      ++ end_line until
      ++ (if planned.orders.spins then spins_at planned.plan planned.orders.samples (last_of from left) until else [])
  pub checkpoint : run_checkpoint planned from until ≡ run_checkpoint planned (last_of from left) until

-- however often, and wherever, runs were stopped
abbrev pub StoppedRunsAddUp : Type 0
StoppedRunsAddUp = (planned : Planned) (until : ℕ) (from : Beginning) (left : List Beginning) → IsLawfulPlan planned.plan → AreLawfulOrders planned.orders → IsBeginning planned from
    → reached_by from ≤ until → AreLeft planned.plan planned.orders.samples planned.orders.every until from left → AddUp planned until from left
