-- The runs of several banks before and after they are driven: one run for each bank, from states at one epoch.
use Rattle.std.specs.Prelude.{◌≡◌, ℕ, ◌+◌, ◌-◌, ◌*◌, ◌<◌, ◌≤◌, min, ◌&&◌, ◌==◌, if◌then◌else◌, List, [], ◌∷◌, ◌++◌, length, map, All}
use Rattle.spin_model.specs.Limits.{every_take, last_epoch, most_rows}
use Rattle.run_plan.specs.declared.run_file.Orders.{Orders}
use Rattle.run_checkpoint.specs.BankEncoding.{HaveShape, BanksFit}
use Rattle.run_checkpoint.specs.Encoding.{flattened}
use Rattle.report_text.specs.Lines.{header_line, end_line}
use Rattle.scalar_rule.specs.Records.{recorded_epochs}
use Rattle.scalar_rule.specs.Plan.{Plan, slots_of}
use Rattle.scalar_rule.specs.Positions.{floor_of}
use Rattle.scalar_rule.specs.Ragged.{all_ready}
use Rattle.scalar_rule.specs.declared.sample.PlainSlot.{PlainSlot}
use Rattle.scalar_rule.specs.declared.sample.Record.{Record}
use Rattle.plane_sweep.specs.Packed.{part}
use Rattle.plane_sweep.specs.Uneven.{level_stand, positions_of}
use Rattle.plane_sweep.specs.declared.stand.Stand.{Stand}
use Rattle.glass_engine.specs.Banks.{Bank, of_sample, banks_checkpoint}
use Rattle.glass_engine.specs.Report.{rows_in_order, all_spins, uneven_measured}
use Rattle.glass_engine.specs.Runs.{RunView, DoneView, starts, IsEnd}
use Rattle.glass_engine.specs.declared.run.SaveKind.{SaveKind}

-- ---- what is opened

-- the same orders for so many printed samples
abbrev pub for_samples : ℕ → Orders → Orders
for_samples samples orders = record { samples = samples; epochs = orders.epochs; every = orders.every; start = orders.start; spins = orders.spins }

-- a bank's run from a state at one epoch, which isn't asked to stop
abbrev pub bank_run : Plan → Stand → Orders → ℕ → SaveKind → RunView
bank_run plan stand orders until kind =
    record { plan = plan; base = level_stand stand; orders = orders; until = until; takes = every_take; saves = kind }

-- those of the banks, of which each prints the next 64 samples or what is left of them
unfoldable pub bank_runs : List Plan → List Stand → Orders → ℕ → SaveKind → List RunView
bank_runs [] stands orders until kind = []
bank_runs (plan ∷ plans) [] orders until kind = []
bank_runs (plan ∷ plans) (stand ∷ stands) orders until kind =
    bank_run plan stand (for_samples (min orders.samples 64) orders) until kind
    ∷ bank_runs plans stands (for_samples (orders.samples - 64) orders) until kind

-- the orders that a run over so many banks can have: the last bank prints a sample, and no sample is left behind it
pub record AreBankOrders (banks : ℕ) (orders : Orders) : Type 0 where
  pub some_banks : 2 ≤ banks
  pub few_banks : banks ≤ 4
  pub some_samples : 64 * (banks - 1) < orders.samples
  pub few_samples : orders.samples ≤ 64 * banks
  pub some_every : 1 ≤ orders.every
  pub every : orders.every ≤ last_epoch

-- the plans have one size and one number of slots; the states of the banks fit them and are at one epoch, in time; and the
-- rows are not too many
pub record AreBankStarts (plans : List Plan) (stands : List Stand) (orders : Orders) (until : ℕ) : Type 0 where
  pub size : ℕ
  pub slots : ℕ
  pub epoch : ℕ
  pub shape : HaveShape size slots plans
  pub fit : BanksFit epoch plans stands
  pub in_time : epoch ≤ until
  pub rows : orders.samples * slots * recorded_epochs orders.every epoch until ≤ most_rows

-- ---- what it means

-- the plan of each bank
abbrev pub plans_of : List RunView → List Plan
plans_of runs = map (λ (run : RunView). run.plan) runs

-- the bank of a run from states at one epoch
abbrev pub bank_of : RunView → Bank
bank_of run = record { plan = run.plan; start = λ b. part run.plan.size b (flattened run.base) }

unfoldable pub samples_in : List RunView → ℕ
samples_in [] = 0
samples_in (run ∷ runs) = run.orders.samples + samples_in runs

-- the checkpoint of the runs of all banks
unfoldable pub runs_checkpoint : List RunView → List ℕ
runs_checkpoint [] = []
runs_checkpoint (run ∷ runs) = banks_checkpoint (map bank_of (run ∷ runs)) run.until

-- the runs of banks that were driven
abbrev pub runs_of : List DoneView → List RunView
runs_of dones = map (λ (d : DoneView). d.run) dones

-- ---- what is printed

-- what is measured of a sample of a bank, by the rule from the state that its run starts from
abbrev pub own_measured : RunView → ℕ → ℕ → List Record
own_measured run = uneven_measured run.plan (starts run) run.base.pending run.orders.samples run.orders.every

-- and of sample b of all banks, at epoch f, slot by slot
abbrev pub run_measured : List DoneView → ℕ → ℕ → List Record
run_measured ds b f = of_sample [] (λ (d : DoneView) m. own_measured d.run m f) ds b

-- the slots of sample b, with every slot at rest at epoch e
abbrev pub run_slots : ℕ → List DoneView → ℕ → List PlainSlot
run_slots e ds b = of_sample [] (λ (d : DoneView) m. (all_ready d.run.plan (starts d.run m) e).slots) ds b

-- the least epoch that all slots had completed when a bank's run started, and at its end
abbrev pub floor_before : DoneView → ℕ
floor_before d = floor_of (positions_of d.run.base)

abbrev pub floor_after : DoneView → ℕ
floor_after d = floor_of (positions_of d.ended.stand)

-- the one report of a run over banks, whose slots may have started and ended at epochs of their own: the header, with the number
-- of all samples; the rows in order of epoch, sample, slot, as far as every slot came; the end; where spins are ordered and every
-- slot came to the last epoch those of the rule there. The size, the number of slots, the rule and the least completed epochs are
-- those of one of the banks, and of all
abbrev pub report_by : DoneView → List DoneView → List ℕ
report_by d ds =
    header_line d.run.plan (samples_in (runs_of ds)) (floor_before d) (floor_after d)
    ++ rows_in_order (run_measured ds) (samples_in (runs_of ds)) d.run.orders.every (floor_before d) (floor_after d)
    ++ end_line (floor_after d)
    ++ (if d.run.orders.spins && floor_after d == d.run.until
    then all_spins d.run.plan (samples_in (runs_of ds)) (run_slots (floor_after d) ds) else [])

-- of bank 0
unfoldable pub run_report : List DoneView → List ℕ
run_report [] = []
run_report (d ∷ ds) = report_by d (d ∷ ds)

-- what banks of one report share: the size, the number of slots, how many epochs pass for one that is recorded, the least
-- completed epochs before and after, and the epoch to which they were to go
pub record Course : Type 0 where
  pub size : ℕ
  pub slots : ℕ
  pub every : ℕ
  pub from : ℕ
  pub to : ℕ
  pub until : ℕ

pub record IsAbreast (course : Course) (d : DoneView) : Type 0 where
  pub ended : IsEnd d.run d.ended
  pub size : d.run.plan.size ≡ course.size
  pub slots : slots_of d.run.plan ≡ course.slots
  pub every : d.run.orders.every ≡ course.every
  pub from : floor_before d ≡ course.from
  pub to : floor_after d ≡ course.to
  pub until : d.run.until ≡ course.until

-- each bank prints 64 samples, or what is left of them
unfoldable pub HaveSamples : ℕ → List RunView → Type 0
HaveSamples samples [] = samples ≡ 0
HaveSamples samples (run ∷ runs) = (run.orders.samples ≡ min samples 64) × HaveSamples (samples - 64) runs

-- banks that have one report
pub record AreAbreast (ds : List DoneView) : Type 0 where
  pub some : 1 ≤ length ds
  pub few : length ds ≤ 4
  pub course : Course
  pub each : All (IsAbreast course) ds
  pub samples : HaveSamples (samples_in (runs_of ds)) (runs_of ds)
