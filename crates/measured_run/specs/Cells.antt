-- The slots of a bank, from the sweeps of an epoch to its exchange.
use Rattle.std.specs.Prelude.{◌≡◌, ℕ, ◌+◌, ◌<◌, ◌≤◌, true, if◌then◌else◌, List, map, length, slice_index_or, All}
use Rattle.spin_model.specs.Limits.{last_epoch}
use Rattle.spin_model.specs.Steps.{table}
use Rattle.scalar_rule.specs.Plan.{Plan, slots_of, pairs_of}
use Rattle.scalar_rule.specs.Epoch.{swept_slot, has_turn, has_partner, exchanged, pair_at}
use Rattle.scalar_rule.specs.Exchange.{drawn_pair}
use Rattle.scalar_rule.specs.Turns.{after_turn, drawn_in_turn}
use Rattle.scalar_rule.specs.declared.sample.PlainSlot.{PlainSlot}
use Rattle.scalar_rule.specs.declared.sample.PlainPair.{PlainPair}
use Rattle.plane_sweep.specs.Packed.{part_slot, part_pair, FitsDuo, ArePairGenerators}
use Rattle.plane_sweep.specs.declared.stand.PairWheels.{PairWheels}
use Rattle.measured_sums.specs.EpochBins.{bin_of}
use Rattle.measured_sums.specs.MeasuredSums.{observed_in}
use Rattle.measured_sums.specs.RunningSums.{RunningSums, behind_epoch}
use Rattle.plane_sums.specs.Bins.{SumsView, bin_at}
use Rattle.plane_sums.specs.Slots.{HaveSums}
use Rattle.slot_steps.specs.Totals.{AreTotals}
use Rattle.measured_run.specs.declared.cell.Cell.{Cell}

-- the slots of sample b
abbrev pub slots_in : ℕ → ℕ → List Cell → List PlainSlot
slots_in l b cells = map (λ (cell : Cell). part_slot l b cell.duo) cells

-- the generators of the pairs, which serve all samples
abbrev pub pairs_in : List PairWheels → List PlainPair
pairs_in pairs = map part_pair pairs

-- what is summed up, slot by slot
abbrev pub sums_in : List Cell → List SumsView
sums_in cells = map (λ (cell : Cell). cell.sums) cells

abbrev pub FitCells : Plan → List Cell → Type 0
FitCells plan cells = All (λ (cell : Cell). FitsDuo plan.size cell.duo) cells

-- ---- the sweeps

-- a slot fits, and its sums have room for what is measured in an epoch
pub record CanSweep (plan : Plan) (epoch : ℕ) (cell : Cell) : Type 0 where
  pub fits : FitsDuo plan.size cell.duo
  pub from : cell.sums.first ≤ bin_of epoch
  pub to : bin_of epoch < cell.sums.first + length cell.sums.bins
  pub few : (bin_at cell.sums (bin_of epoch)).epochs < last_epoch

-- slot t behind the sweeps of an epoch: its sums have what is observed in it more, and it has its totals where it has a partner
pub record IsSweptCell (plan : Plan) (every epoch t : ℕ) (old new : Cell) : Type 0 where
  pub swept : (b : ℕ) → b < 64 → part_slot plan.size b new.duo ≡ swept_slot plan b t (part_slot plan.size b old.duo)
  pub fits : FitsDuo plan.size new.duo
  pub totals : has_partner (slots_of plan) t epoch ≡ true → AreTotals plan new.duo new.totals
  pub sums : (before : ℕ → RunningSums) → HaveSums plan.size before old.sums
      → HaveSums plan.size (λ b. behind_epoch every plan.size epoch (observed_in plan b (part_slot plan.size b new.duo)) (before b)) new.sums
  pub first : new.sums.first ≡ old.sums.first
  pub bins : length new.sums.bins ≡ length old.sums.bins

-- all slots from slot `first` on
pub record AreSwept (plan : Plan) (every epoch first : ℕ) (old new : List Cell) : Type 0 where
  pub sized : length new ≡ length old
  pub each : (t : ℕ) (d : Cell) → t < length old → IsSweptCell plan every epoch (first + t) (slice_index_or old t d) (slice_index_or new t d)

-- ---- the exchange

-- a slot after its exchange is this in each sample, and keeps its sums
pub record IsTradedCell (plan : Plan) (slot : ℕ → PlainSlot) (old new : Cell) : Type 0 where
  pub traded : (b : ℕ) → b < 64 → part_slot plan.size b new.duo ≡ slot b
  pub fits : FitsDuo plan.size new.duo
  pub sums : new.sums ≡ old.sums

-- from pair k on, the slots of each pair that has its turn have their totals
abbrev pub AreCounted : Plan → ℕ → ℕ → List Cell → Type 0
AreCounted plan epoch k cells = (j : ℕ) (d : Cell) → k ≤ j → j < pairs_of plan → has_turn j epoch ≡ true
    → AreTotals plan (slice_index_or cells j d).duo (slice_index_or cells j d).totals
    × AreTotals plan (slice_index_or cells (j + 1) d).duo (slice_index_or cells (j + 1) d).totals

-- the slots and generators after pair k's place in the exchange of an epoch
pub record IsAfterTurn (plan : Plan) (epoch k : ℕ) (pairs pairs_after : List PairWheels) (cells cells_after : List Cell) : Type 0 where
  pub slots : (b : ℕ) → b < 64 → slots_in plan.size b cells_after ≡ after_turn plan b k epoch (pairs_in pairs) (slots_in plan.size b cells)
  pub wheels : pairs_in pairs_after ≡ drawn_in_turn k epoch (pairs_in pairs)
  pub fits : FitCells plan cells_after
  pub wheels_fit : All ArePairGenerators pairs_after
  pub sums : sums_in cells_after ≡ sums_in cells
  pub counted : AreCounted plan epoch (k + 1) cells_after

-- after the exchange of all
pub record AreExchanged (plan : Plan) (epoch : ℕ) (pairs pairs_after : List PairWheels) (cells cells_after : List Cell) : Type 0 where
  pub slots : (b : ℕ) → b < 64
      → slots_in plan.size b cells_after ≡ table (exchanged plan b epoch (pairs_in pairs) (slots_in plan.size b cells)) (slots_of plan)
  pub wheels : pairs_in pairs_after
      ≡ table (λ k. if has_turn k epoch then drawn_pair (pair_at (pairs_in pairs) k) else pair_at (pairs_in pairs) k) (pairs_of plan)
  pub fits : FitCells plan cells_after
  pub wheels_fit : All ArePairGenerators pairs_after
  pub sums : sums_in cells_after ≡ sums_in cells

-- ---- both

-- an epoch: the slots are swept, and those of the sweeps' end are exchanged
pub record RunsEpoch (plan : Plan) (every epoch : ℕ) (pairs pairs_after : List PairWheels) (cells cells_after : List Cell) : Type 0 where
  pub between : List Cell
  pub swept : AreSwept plan every epoch 0 cells between
  pub exchanged : AreExchanged plan epoch pairs pairs_after between cells_after
