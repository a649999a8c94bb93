-- What a board ends with: at its last epoch, and wherever no slot is in work.
use Rattle.std.specs.Prelude.{◌≡◌, ℕ, ◌-◌, ◌+◌, ◌*◌, ◌/◌, ◌%◌, ◌<◌, ◌≤◌, true, ◌==◌, Some, List, length, take, slice_index_or, Box}
use Rattle.std.specs.declared.alloc.Global.{Global}
use Rattle.scalar_rule.specs.Ragged.{Position, all_ready}
use Rattle.scalar_rule.specs.Laws.{IsReached}
use Rattle.scalar_rule.specs.Positions.{position_in, done, rank, sum_below, floor_of, deepest_of, cell_epoch, is_pending, pending_before, pending_count, pending_record, uneven_records}
use Rattle.scalar_rule.specs.Records.{is_recorded}
use Rattle.scalar_rule.specs.declared.sample.Record.{Record}
use Rattle.plane_sweep.specs.Packed.{StandsFor, StandFits}
use Rattle.plane_sweep.specs.Uneven.{place_at, positions_of, uneven_part, RaggedStandFits}
use Rattle.plane_sweep.specs.declared.replica.Duo.{Duo}
use Rattle.plane_sweep.specs.declared.uneven.Place.{Place}
use Rattle.exchange_board.specs.declared.origin.Origin.{Origin}
use Rattle.exchange_board.specs.declared.home.Home.{Home}
use Rattle.exchange_board.specs.declared.board.Slot.{Slot}
use Rattle.exchange_board.specs.Content.{plan_of, slots_in, starts, taken_before, floor_in, rows_before, row_total, record_at, row_place, rule_record, KeepsRows}
use Rattle.exchange_board.specs.Machine.{epochs, phases}
use Rattle.exchange_board.specs.Views.{Stage, EndedView, RaggedEndedView}

-- the contents of slots that are at home, slot by slot
pub record AreMoved (slots : List Slot) (duos : List Duo) : Type 0 where
  pub sized : length duos ≡ length slots
  pub each : (t : ℕ) (d : Slot) (e : Duo) (h : Box Home Global) → t < length slots → (slice_index_or slots t d).home ≡ Some h → slice_index_or duos t e ≡ h.value.duo

-- the places of slots that are at home
pub record AreStops (stages : List Stage) (places : List Place) : Type 0 where
  pub sized : length places ≡ length stages
  pub epoch : (t : ℕ) → t < length stages → (place_at places t).epoch ≡ epochs stages t
  pub arrived : (t : ℕ) → t < length stages → (place_at places t).arrived ≡ (phases stages t == 2)

-- positions that a board reached from an origin, in step
pub record IsAhead (o : Origin) (ps : List Position) : Type 0 where
  pub sized : length ps ≡ slots_in o
  pub reach : (t : ℕ) → t < slots_in o → done (position_in ps t) ≤ o.window.until
  pub from : floor_in o ≤ floor_of ps
  pub depth : deepest_of ps - floor_of ps ≤ slots_in o
  pub deep : floor_of ps ≤ deepest_of ps

-- rows that have the rule's records ahead of the least completed epoch
abbrev pub HasAhead : Origin → List Position → List Record → Type 0
HasAhead o ps rows = (f i t : ℕ) → floor_of ps ≤ f → f < done (position_in ps t) → is_recorded o.window.every f ≡ true → i < o.window.samples → t < slots_in o
    → record_at rows (row_place o f i t) ≡ rule_record o f i t

-- these records, kept in order
pub record KeepsAhead (o : Origin) (ps : List Position) (pending : List Record) : Type 0 where
  pub sized : length pending ≡ pending_count o.window.samples o.window.every ps
  pub each : (f i t : ℕ) → floor_of ps ≤ f → f < done (position_in ps t) → is_recorded o.window.every f ≡ true → i < o.window.samples → t < slots_in o
      → pending_record o.window.samples o.window.every ps pending i f t ≡ rule_record o f i t

-- the end is the rule's at until, for all samples, and so are the records
pub record IsEnd (o : Origin) (d : EndedView) : Type 0 where
  pub same : d.origin ≡ o
  pub fits : StandFits (plan_of o) d.stand
  pub stand : StandsFor (plan_of o) (λ b. all_ready (plan_of o) (starts o b) o.window.until) d.stand
  pub records : d.records ≡ uneven_records (plan_of o) (starts o) o.base.pending o.window.samples o.window.every o.window.until

-- a stop has the content and the records of the rule at its places, fits the plan, and can be gone on from; its slots were
-- handed out no more often than the window allows; the records below its least completed epoch are those of a run until there
pub record IsStop (o : Origin) (d : RaggedEndedView) : Type 0 where
  pub same : d.origin ≡ o
  pub fits : RaggedStandFits (plan_of o) o.window.samples o.window.every d.stand
  pub reached : (i : ℕ) → i < 64 → IsReached (plan_of o) (starts o i) (uneven_part (plan_of o).size i d.stand)
  pub from : floor_in o ≤ floor_of (positions_of d.stand)
  pub reach : deepest_of (positions_of d.stand) ≤ o.window.until
  pub taken : sum_below (λ t. done (position_in (positions_of d.stand) t)) (slots_in o) ≤ taken_before o + o.window.takes
  pub pending : KeepsAhead o (positions_of d.stand) d.stand.pending
  pub sized : length d.records ≡ row_total o
  pub rows : KeepsRows o (λ t. rank (position_in (positions_of d.stand) t)) d.records
  pub records : take (rows_before o (floor_of (positions_of d.stand)) * o.window.samples * slots_in o) d.records
      ≡ uneven_records (plan_of o) (starts o) o.base.pending o.window.samples o.window.every (floor_of (positions_of d.stand))

-- the records of the places below j of the table
pub record IsKeeping (o : Origin) (ps : List Position) (j : ℕ) (rows : List Record) : Type 0 where
  pub sized : length rows ≡ pending_before o.window.samples o.window.every ps j
  pub each : (k : ℕ) → k < j → is_pending (λ t. done (position_in ps t)) (floor_of ps) o.window.samples o.window.every (length ps) k ≡ true
      → record_at rows (pending_before o.window.samples o.window.every ps k)
      ≡ rule_record o (cell_epoch (floor_of ps) o.window.samples (length ps) k) (k / length ps % o.window.samples) (k % length ps)
