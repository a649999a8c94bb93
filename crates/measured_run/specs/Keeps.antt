-- What the slots of a bank keep from epoch to epoch.
use Rattle.std.specs.Arc.{arc_value}
use Rattle.std.specs.Prelude.{◌≡◌, ℕ, ◌+◌, ◌-◌, ◌<◌, ◌≤◌, List, length, slice_index_or, All}
use Rattle.spin_model.specs.Limits.{last_epoch}
use Rattle.scalar_rule.specs.Plan.{Plan, slots_of, pairs_of}
use Rattle.scalar_rule.specs.Serial.{serial}
use Rattle.scalar_rule.specs.declared.sample.Sample.{Sample}
use Rattle.plane_sweep.specs.Packed.{ArePairGenerators, StandFits}
use Rattle.plane_sweep.specs.declared.stand.PairWheels.{PairWheels}
use Rattle.measured_sums.specs.EpochBins.{bin_of}
use Rattle.measured_sums.specs.RunningSums.{sums_below}
use Rattle.plane_sums.specs.Bins.{SumsView}
use Rattle.plane_sums.specs.Slots.{HaveSums}
use Rattle.measured_run.specs.Banks.{BankAt, start_of}
use Rattle.measured_run.specs.Cells.{slots_in, pairs_in, FitCells}
use Rattle.measured_run.specs.declared.bank.Bank.TheInside as bank
use Rattle.measured_run.specs.declared.cell.Cell.{Cell}

-- sample b of slots and generators at an epoch
abbrev pub sample_in : ℕ → ℕ → ℕ → List Cell → List PairWheels → Sample
sample_in l b e cells pairs = record { bit = b; epoch = e; slots = slots_in l b cells; pairs = pairs_in pairs }

-- sums of a slot have the bins of the epochs from c on and below e
pub record HaveBins (c e : ℕ) (sums : SumsView) : Type 0 where
  pub first : sums.first ≡ bin_of c
  pub bins : length sums.bins ≡ bin_of (e - 1) + 1 - bin_of c

-- in each sample the state is the serial dynamics' at epoch e, from the states of `start`, and the sums are those below it
pub record KeepsCells (plan : Plan) (start : ℕ → Sample) (every until e : ℕ) (cells : List Cell) (pairs : List PairWheels) : Type 0 where
  pub state : (b : ℕ) → b < 64 → sample_in plan.size b e cells pairs ≡ serial plan (start b) e
  pub fits : FitCells plan cells
  pub wheels : All ArePairGenerators pairs
  pub count : length cells ≡ slots_of plan
  pub pairs_count : length pairs ≡ pairs_of plan
  pub sums : (t : ℕ) (d : Cell) → t < length cells → HaveSums plan.size (λ b. sums_below plan (start b) every t e) (slice_index_or cells t d).sums
  pub bins : All (λ (cell : Cell). HaveBins (start 0).epoch until cell.sums) cells

abbrev pub bank_at : bank.Inside → BankAt
bank_at b = record { bank = record { plan = arc_value b.plan; base = b.base.value; every = b.every; until = b.until }; epoch = b.epoch }

-- it started in a state that fits, and has what the serial dynamics gives at its epoch
pub record KeepsBank (b : bank.Inside) : Type 0 where
  pub fits : StandFits (arc_value b.plan) b.base.value
  pub from : b.base.value.epoch ≤ b.epoch
  pub to : b.epoch ≤ b.until
  pub until : b.until ≤ last_epoch
  pub some_every : 1 ≤ b.every
  pub cells : KeepsCells (arc_value b.plan) (start_of (arc_value b.plan) b.base.value) b.every b.until b.epoch b.cells b.pairs
