-- What an origin gives: the states of its samples, the content of its slots, and the records.
use Rattle.std.specs.Prelude.{◌≡◌, ℕ, ◌+◌, ◌*◌, ◌<◌, ◌≤◌, List, [], slice_index_or, true}
use Rattle.std.specs.Arc.{arc_value}
use Rattle.spin_model.specs.Limits.{every_take, last_epoch, most_rows}
use Rattle.scalar_rule.specs.Plan.{Plan, slots_of, IsLawfulPlan}
use Rattle.scalar_rule.specs.Ragged.{Position, UnevenState}
use Rattle.scalar_rule.specs.Positions.{position_in, done, rank, floor_of, deepest_of, sum_below, uneven_record}
use Rattle.scalar_rule.specs.Records.{is_recorded, recorded_epochs}
pub use Rattle.scalar_rule.specs.Records.{no_record, record_at}
use Rattle.scalar_rule.specs.declared.sample.Record.{Record}
use Rattle.plane_sweep.specs.Uneven.{positions_of, uneven_part, RaggedStandFits}
use Rattle.plane_sweep.specs.declared.stand.PairWheels.{PairWheels}
use Rattle.exchange_board.specs.declared.origin.Origin.{Origin}
use Rattle.exchange_board.specs.Machine.{recorded}

-- its plan, and the number of slots
abbrev pub plan_of : Origin → Plan
plan_of o = arc_value o.plan

abbrev pub slots_in : Origin → ℕ
slots_in o = slots_of (plan_of o)

-- the state that sample b starts with
abbrev pub starts : Origin → ℕ → UnevenState
starts o b = uneven_part (plan_of o).size b o.base

-- the positions where the slots start
abbrev pub positions_in : Origin → List Position
positions_in o = positions_of o.base

-- the progress number at which slot t starts
abbrev pub started : Origin → ℕ → ℕ
started o t = rank (position_in (positions_in o) t)

-- the least completed epoch there
abbrev pub floor_in : Origin → ℕ
floor_in o = floor_of (positions_in o)

-- how many hand-outs the starting state has behind it, counted from epoch 0
abbrev pub taken_before : Origin → ℕ
taken_before o = sum_below (λ t. done (position_in (positions_in o) t)) (slots_in o)

-- the recorded epochs from the floor on and below f
abbrev pub rows_before : Origin → ℕ → ℕ
rows_before o f = recorded_epochs o.window.every (floor_in o) f

-- where the record of sample i at epoch f in slot t stands
abbrev pub row_place : Origin → ℕ → ℕ → ℕ → ℕ
row_place o f i t = (rows_before o f * o.window.samples + i) * slots_in o + t

-- how many records there are
abbrev pub row_total : Origin → ℕ
row_total o = rows_before o o.window.until * o.window.samples * slots_in o

-- the record of sample i at epoch f in slot t, by the rule
abbrev pub rule_record : Origin → ℕ → ℕ → ℕ → Record
rule_record o f i t = uneven_record (plan_of o) (starts o) o.base.pending o.window.samples o.window.every i f t

-- a row of slot t at progress number p: the rule's record where the slot has recorded the epoch, else zeros
pub record KeepsRow (o : Origin) (f i t p : ℕ) (row : Record) : Type 0 where
  pub written : f < recorded p → row ≡ rule_record o f i t
  pub empty : recorded p ≤ f → row ≡ no_record

-- the rows of slots at these progress numbers
abbrev pub KeepsRows : Origin → (ℕ → ℕ) → List Record → Type 0
KeepsRows o N rows = (f i t : ℕ) → floor_in o ≤ f → f < o.window.until → is_recorded o.window.every f ≡ true
    → i < o.window.samples → t < slots_in o → KeepsRow o f i t (N t) (record_at rows (row_place o f i t))

-- what an origin must be: a starting state that fits the plan, its records and the window's until, and amounts within limits
pub record IsLawfulOrigin (o : Origin) : Type 0 where
  pub plan : IsLawfulPlan (plan_of o)
  pub base : RaggedStandFits (plan_of o) o.window.samples o.window.every o.base
  pub until : o.window.until ≤ last_epoch
  pub every : o.window.every ≤ last_epoch
  pub takes : o.window.takes ≤ every_take
  pub reach : deepest_of (positions_in o) ≤ o.window.until
  pub rows : row_total o ≤ most_rows

-- pair k of a list; one without words where there is none
abbrev pub pair_in : List PairWheels → ℕ → PairWheels
pair_in pairs k = slice_index_or pairs k (record { first = []; second = [] })
