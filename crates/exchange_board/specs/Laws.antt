-- What holds of boards: a stop can be gone on from.
use Rattle.std.specs.Prelude.{◌≡◌, ℕ, ◌*◌, ◌<◌, ◌≤◌, ◌++◌, take}
use Rattle.scalar_rule.specs.Positions.{floor_of, deepest_of, uneven_records}
use Rattle.plane_sweep.specs.Uneven.{positions_of, uneven_part}
use Rattle.scalar_rule.specs.Ragged.{all_ready}
use Rattle.exchange_board.specs.declared.origin.Origin.{Origin}
use Rattle.exchange_board.specs.Content.{plan_of, slots_in, starts, rows_before}
use Rattle.exchange_board.specs.Stops.{IsStop}
use Rattle.exchange_board.specs.Views.{RaggedEndedView}

-- a stop, and a board that goes on from it: the rows of the stop below its least completed epoch, and then those by the rule
-- from the state where it stopped, are all rows of the first starting state
abbrev pub ResumedRecordsGoOn : Type 0
ResumedRecordsGoOn = (o : Origin) (d : RaggedEndedView) (e : ℕ) → IsStop o d → floor_of (positions_of d.stand) ≤ e
    → take (rows_before o (floor_of (positions_of d.stand)) * o.window.samples * slots_in o) d.records
    ++ uneven_records (plan_of o) (λ b. uneven_part (plan_of o).size b d.stand) d.stand.pending o.window.samples o.window.every e
    ≡ uneven_records (plan_of o) (starts o) o.base.pending o.window.samples o.window.every e

-- from a stop, and from the first starting state, every slot at rest at one epoch has the same content, and so have the pairs'
-- generators: the last of many runs ends where one run would
abbrev pub ResumedStateGoesOn : Type 0
ResumedStateGoesOn = (o : Origin) (d : RaggedEndedView) (i e : ℕ) → IsStop o d → i < 64 → deepest_of (positions_of d.stand) ≤ e
    → all_ready (plan_of o) (uneven_part (plan_of o).size i d.stand) e ≡ all_ready (plan_of o) (starts o i) e
