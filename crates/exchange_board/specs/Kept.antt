-- The table of epochs, samples and slots, and the records that are kept ahead of the least completed epoch.
use Rattle.std.specs.Prelude.{◌≡◌, ℕ, ◌-◌, ◌*◌, ◌<◌, ◌≤◌, Bool, true, List, length}
use Rattle.scalar_rule.specs.Records.{is_recorded}
use Rattle.scalar_rule.specs.Positions.{position_in, done, cell_number, is_pending, pending_before, deepest_of}
use Rattle.scalar_rule.specs.declared.sample.Record.{Record}
use Rattle.exchange_board.specs.declared.origin.Origin.{Origin}
use Rattle.exchange_board.specs.Content.{slots_in, positions_in, floor_in, row_place, row_total, no_record, record_at}

-- the epochs that slot t has recorded, where it starts
abbrev pub past_in : Origin → ℕ → ℕ
past_in o t = done (position_in (positions_in o) t)

-- whether the start keeps a record of place j
abbrev pub kept_in : Origin → ℕ → Bool
kept_in o j = is_pending (past_in o) (floor_in o) o.window.samples o.window.every (length (positions_in o)) j

-- the place of epoch f, sample i and slot t
abbrev pub number_in : Origin → ℕ → ℕ → ℕ → ℕ
number_in o f i t = cell_number (floor_in o) o.window.samples (length (positions_in o)) f i t

-- how many records it keeps of the places before j
abbrev pub before_in : Origin → ℕ → ℕ
before_in o j = pending_before o.window.samples o.window.every (positions_in o) j

-- the places of the table up to the last epoch that a slot has completed
abbrev pub cells_in : Origin → ℕ
cells_in o = (deepest_of (positions_in o) - floor_in o) * o.window.samples * length (positions_in o)

-- the rows once the places below j are filled
pub record IsFilled (o : Origin) (j : ℕ) (rows : List Record) : Type 0 where
  pub sized : length rows ≡ row_total o
  pub filled : (f i t : ℕ) → floor_in o ≤ f → is_recorded o.window.every f ≡ true → i < o.window.samples → t < slots_in o → f < past_in o t → number_in o f i t < j
      → record_at rows (row_place o f i t) ≡ record_at o.base.pending (before_in o (number_in o f i t))
  pub zero_late : (f i t : ℕ) → floor_in o ≤ f → f < o.window.until → is_recorded o.window.every f ≡ true → i < o.window.samples → t < slots_in o → past_in o t ≤ f
      → record_at rows (row_place o f i t) ≡ no_record
