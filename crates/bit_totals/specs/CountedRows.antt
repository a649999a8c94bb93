-- The sweep of two rows of a plane by columns.
use Rattle.std.specs.Prelude.{◌≡◌, ℕ, ◌+◌, ◌<◌, ◌≤◌, List, length, slice_index}
use Rattle.threshold_table.specs.Tables.{rule_of}
use Rattle.plane_sweep.specs.PlaneSweep.{pulls_lent, HasRows, SweepsWord}
use Rattle.plane_sweep.specs.declared.rows.Row.{Row}
use Rattle.bit_totals.specs.declared.counted_rows.Lent.{Lent}

-- a row of a plane with these words may be swept by what is borrowed
pub record CanSweepRow (lent : Lent) (row : Row) (words : List ℕ) : Type 0 where
  pub rows : HasRows (length lent.around.here.now) lent.around row
  pub own : length words ≡ length lent.around.here.now
  pub draws : length lent.draws.now ≡ length lent.around.here.now

-- the word at column k of a row is updated by its draw
abbrev pub UpdatesColumn : Lent → Row → ℕ → List ℕ → List ℕ → Type 0
UpdatesColumn lent row k old new =
    SweepsWord (rule_of lent.rule.kind) lent.rule.row.values (pulls_lent lent.around row k) (slice_index lent.draws.now (row.here + k)) (slice_index old (row.here + k)) (slice_index new (row.here + k))

-- a plane's words after the columns from m to n of two rows are updated, of which the second lies behind the first
pub record SweepsPair (lent : Lent) (first second : Row) (m n : ℕ) (old new : List ℕ) : Type 0 where
  pub sized : length new ≡ length old
  pub first_done : (k : ℕ) → m ≤ k → k < n → UpdatesColumn lent first k old new
  pub second_done : (k : ℕ) → m ≤ k → k < n → UpdatesColumn lent second k old new
  pub before : (j : ℕ) → j < first.here + m → slice_index new j ≡ slice_index old j
  pub between : (j : ℕ) → first.here + n ≤ j → j < second.here + m → slice_index new j ≡ slice_index old j
  pub after : (j : ℕ) → second.here + n ≤ j → slice_index new j ≡ slice_index old j
