-- The rows and the spins of a report, from what banks that were driven hold: their records, epoch by epoch and sample by sample,
-- and the states that they ended with.
use Rattle.std.specs.Prelude.{◌≡◌, ℕ, ◌*◌, ◌<◌, ◌≤◌, ◌&&◌, ◌==◌, if◌then◌else◌, List, [], ◌++◌, length, take, drop, All}
use Rattle.spin_model.specs.Limits.{last_epoch, most_slots}
use Rattle.run_plan.specs.declared.run_file.Orders.{Orders}
use Rattle.scalar_rule.specs.Plan.{Plan, slots_of}
use Rattle.scalar_rule.specs.Ragged.{all_ready}
use Rattle.scalar_rule.specs.Records.{in_order}
use Rattle.scalar_rule.specs.declared.sample.Record.{Record}
use Rattle.plane_sweep.specs.Packed.{FitsDuo}
use Rattle.plane_sweep.specs.Uneven.{uneven_part}
use Rattle.report_text.specs.Lines.{header_line, end_line}
use Rattle.glass_engine.specs.BankRuns.{own_measured, run_measured, run_slots, runs_of, HaveSamples}
use Rattle.glass_engine.specs.Report.{rows_in_order, all_spins}
use Rattle.glass_engine.specs.Runs.{DoneView, starts}
use Rattle.glass_engine.specs.declared.rows.RunRows.{RunRows}

-- the records of sample b, of so many slots a sample
abbrev pub piece : List Record → ℕ → ℕ → List Record
piece records slots b = take slots (drop (b * slots) records)

-- ---- rows

-- behind those of so many recorded epochs a bank's records are those of the recorded epochs from f on and below `to`, and more
pub record HasRowsFrom (slots every f to passed : ℕ) (d : DoneView) : Type 0 where
  pub slots_are : slots_of d.run.plan ≡ slots
  pub more : List Record
  pub records : drop (passed * (d.run.orders.samples * slots)) d.ended.records ≡ in_order (own_measured d.run) d.run.orders.samples every f to ++ more

pub record AreRowsFrom (ds : List DoneView) (orders : Orders) (slots f to passed : ℕ) : Type 0 where
  pub some_every : 1 ≤ orders.every
  pub some_slots : 1 ≤ slots
  pub few_slots : slots ≤ most_slots
  pub from : f ≤ to
  pub short : to ≤ last_epoch
  pub counted : passed ≤ f
  pub each : All (HasRowsFrom slots orders.every f to passed) ds
  pub samples : HaveSamples orders.samples (runs_of ds)

-- and epoch f is one of them
pub record HaveNext (ds : List DoneView) (orders : Orders) (slots f passed : ℕ) : Type 0 where
  pub to : ℕ
  pub below : f < to
  pub rows : AreRowsFrom ds orders slots f to passed

-- the rows of all banks between two epochs
abbrev pub AreRunRows : RunRows → Type 0
AreRunRows rows = AreRowsFrom rows.driven.now rows.orders rows.slots rows.from rows.to 0

-- ---- spins

-- the slots that a bank ended with have the shape of a plan, and are those of the rule with every slot at rest at epoch e
pub record HasSpins (plan : Plan) (e : ℕ) (d : DoneView) : Type 0 where
  pub count : length d.ended.stand.slots ≡ slots_of plan
  pub fits : All (FitsDuo plan.size) d.ended.stand.slots
  pub slots : (m : ℕ) → m < 64 → (all_ready d.run.plan (starts d.run m) e).slots ≡ (uneven_part plan.size m d.ended.stand).slots

pub record HaveSpins (rows : RunRows) : Type 0 where
  pub each : All (HasSpins rows.plan.now rows.to) rows.driven.now
  pub samples : HaveSamples rows.orders.samples (runs_of rows.driven.now)

-- ---- the parts of the report

-- what stands behind the rows: the end, and where they are printed the spins
abbrev pub tail_of : RunRows → List ℕ
tail_of rows =
    end_line rows.to ++ (if rows.orders.spins && rows.to == rows.until then all_spins rows.plan.now rows.orders.samples (run_slots rows.to rows.driven.now) else [])

abbrev pub parts_of : RunRows → List ℕ
parts_of rows =
    header_line rows.plan.now rows.orders.samples rows.from rows.to
    ++ rows_in_order (run_measured rows.driven.now) rows.orders.samples rows.orders.every rows.from rows.to
    ++ tail_of rows
