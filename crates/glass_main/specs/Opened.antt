-- A run as it is opened, and why it isn't.
use Rattle.std.specs.Prelude.{◌≡◌, ◌≢◌, ℕ, List, [], ◌∷◌, map, All, Option, Some, None, unwrap_or, Result}
use Rattle.std.specs.Arc.{arc_value}
use Rattle.spin_model.specs.Limits.{every_take}
use Rattle.run_checkpoint.specs.Encoding.{AreBankStates}
use Rattle.glass_engine.specs.BankRuns.{bank_runs, plans_of, runs_of, run_report}
use Rattle.glass_engine.specs.Runs.{RunView, DoneView, IsEnd}
use Rattle.glass_engine.specs.Saves.{end_checkpoint}
use Rattle.glass_engine.specs.declared.run.SaveKind.{SaveKind}
use Rattle.glass_engine.specs.declared.run.SaveKind.TheVariants as saves
use Rattle.plane_sweep.specs.Uneven.{positions_of}
use Rattle.plane_sweep.specs.declared.stand.Stand.{Stand}
use Rattle.plane_sweep.specs.declared.uneven.RaggedStand.{RaggedStand}
use Rattle.glass_main.specs.Beginnings.{Beginning, run_text, state_at, run_checkpoint, IsBaseOf}
use Rattle.glass_main.specs.Stops.{ComesTo, stopped_text, stopped_checkpoint}
use Rattle.glass_main.specs.Endings.{IsOfAmount}
use Rattle.glass_main.specs.ManyBanks.{PlannedBanks}
use Rattle.glass_main.specs.Request.{Work, Gives}
use Rattle.glass_main.specs.Statuses.{IsRefusedBy}
use Rattle.glass_main.specs.declared.refusal.Refusal.{Refusal}
use Rattle.glass_main.specs.declared.ending.Ending.{Ending}
use Rattle.glass_main.specs.declared.ending.Ending.TheVariants.{Done, Refused, Unwritten, Unsaved, NoMemory}
use Rattle.glass_main.specs.declared.planned.Planned.{Planned}
use Rattle.glass_main.specs.declared.finishing.Opened.{Opened}

-- how many hand-outs of a slot a run makes at most: no run makes more than every_take
abbrev pub takes_of : Option ℕ → ℕ
takes_of stop_after = unwrap_or stop_after every_take

-- which checkpoint is saved: none where there is no name for it; that of the last epoch, or where the run may stop that of each
-- slot at its own place
abbrev pub saves_as : Option ℕ → Option (List ℕ) → SaveKind
saves_as stop_after None = saves.Never
saves_as None (Some name) = saves.Level
saves_as (Some takes) (Some name) = saves.Ragged

-- the run of one bank that has the plan, the orders and the epoch that it is to have, makes the hand-outs that it may, and starts
-- from this packed state
abbrev pub own_run : Planned → RaggedStand → ℕ → Option ℕ → Option (List ℕ) → RunView
own_run planned base e stop_after name = record {
  plan = planned.plan;
  base = base;
  orders = planned.orders;
  until = e;
  takes = takes_of stop_after;
  saves = saves_as stop_after name;
}

pub record IsOpened (planned : Planned) (base : RaggedStand) (e : ℕ) (stop_after : Option ℕ) (name : Option (List ℕ)) (opened : Opened) : Type 0 where
  pub shares : map arc_value opened.plans.items ≡ planned.plan ∷ []
  pub runs : opened.run ≡ own_run planned base e stop_after name ∷ []

-- the runs are those of several banks from these packed states, which aren't asked to stop
pub record AreOpened (planned : PlannedBanks) (stands : List Stand) (e : ℕ) (name : Option (List ℕ)) (opened : Opened) : Type 0 where
  pub shares : map arc_value opened.plans.items ≡ planned.plans
  pub runs : opened.run ≡ bank_runs planned.plans stands planned.orders e (saves_as None name)

-- runs that can be driven and saved: their plans are those that are shared, and where a checkpoint is to be saved each has it
pub record AreReady (name : Option (List ℕ)) (opened : Opened) : Type 0 where
  pub plans : map arc_value opened.plans.items ≡ plans_of opened.run
  pub saved : name ≢ None → All (λ (run : RunView). run.saves ≢ saves.Never) opened.run

-- these runs do this work: at their end their report is its text, and where it is named their checkpoint its checkpoint
abbrev pub AreRunsOf : Option (List ℕ) → Work → List RunView → Type 0
AreRunsOf name work runs = (dones : List DoneView) → runs_of dones ≡ runs → All (λ (d : DoneView). IsEnd d.run d.ended) dones
    → Gives work (λ text bytes. (run_report dones ≡ text) × (name ≢ None → end_checkpoint dones ≡ bytes))

-- ---- its end

-- the text and the checkpoint of a run that came to a state
abbrev pub text_at : Option ℕ → Planned → Beginning → ℕ → RaggedStand → List ℕ
text_at None planned from e came = run_text planned from e
text_at (Some takes) planned from e came = stopped_text planned from e (positions_of came)

abbrev pub bytes_at : Option ℕ → Planned → Beginning → ℕ → RaggedStand → List ℕ
bytes_at None planned from e came = run_checkpoint planned from e
bytes_at (Some takes) planned from e came = stopped_checkpoint planned came

-- one that may stop comes to it; the states of one to its last epoch fit
abbrev pub Comes : Option ℕ → Planned → Beginning → ℕ → RaggedStand → Type 0
Comes None planned from e came = AreBankStates planned.plan (λ b. state_at planned.plan from e b)
Comes (Some takes) planned from e came = ComesTo planned from e takes came

-- the ending of a run, of which this work is asked, that isn't opened: it is refused for its amount, or there was not enough memory
abbrev pub IsUnopened : Result Work Refusal → Ending → Type 0
IsUnopened asked (Refused told) = IsOfAmount told × IsRefusedBy asked told
IsUnopened asked NoMemory = Unit {0}
IsUnopened asked ending = ⊥

-- a run of what is asked for: its plan, its orders, its last epoch, what it starts from, and the hand-outs that it may make
pub record IsRunOf (stop_after : Option ℕ) (planned : Planned) (from : Beginning) (e : ℕ) (run : RunView) : Type 0 where
  pub plan : run.plan ≡ planned.plan
  pub orders : run.orders ≡ planned.orders
  pub until : run.until ≡ e
  pub takes : run.takes ≡ takes_of stop_after
  pub base : IsBaseOf planned.plan from run.base

-- the endings of an open run: its report is written and its checkpoint placed, or the output failed, or the store; memory is
-- not wanting any more
abbrev pub IsOfOpenRun : Option (List ℕ) → Ending → Type 0
IsOfOpenRun name Done = Unit {0}
IsOfOpenRun name Unwritten = Unit {0}
IsOfOpenRun name Unsaved = name ≢ None
IsOfOpenRun name ending = ⊥
