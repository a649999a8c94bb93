-- What contracts see of a board, of a slot in work, and of what a board ends with.
use Rattle.std.specs.Prelude.{ℕ, ◌+◌, ◌*◌, List, map, slice_index_or}
use Rattle.scalar_rule.specs.declared.sample.Record.{Record}
use Rattle.plane_sweep.specs.declared.stand.Stand.{Stand}
use Rattle.plane_sweep.specs.declared.uneven.RaggedStand.{RaggedStand}
use Rattle.exchange_board.specs.declared.origin.Origin.{Origin}

-- an epoch and a phase: 0 at rest, 1 in work, 2 waiting for the partner
pub record Stage : Type 0 where
  pub epoch : ℕ
  pub phase : ℕ

-- a board: its provenance and its slots' positions
pub record BoardView : Type 0 where
  pub origin : Origin
  pub places : List Stage

-- a slot in work, or of two partners in work the colder one: the provenance of its board, its number and its epoch
pub record JobView : Type 0 where
  pub origin : Origin
  pub slot : ℕ
  pub epoch : ℕ

-- an end, and a stop: the provenance, the state and the records
pub record EndedView : Type 0 where
  pub origin : Origin
  pub stand : Stand
  pub records : List Record

pub record RaggedEndedView : Type 0 where
  pub origin : Origin
  pub stand : RaggedStand
  pub records : List Record

-- at rest, in work and waiting at epoch e
abbrev pub ready_at : ℕ → Stage
ready_at e = record { epoch = e; phase = 0 }

abbrev pub out_at : ℕ → Stage
out_at e = record { epoch = e; phase = 1 }

abbrev pub arrived_at : ℕ → Stage
arrived_at e = record { epoch = e; phase = 2 }

-- place t of a list; epoch 0, at rest, where there is none
abbrev pub place_at : List Stage → ℕ → Stage
place_at ps t = slice_index_or ps t (ready_at 0)

-- the progress number
abbrev pub progress : Stage → ℕ
progress p = 4 * p.epoch + p.phase

-- the progress numbers of a board, slot by slot
abbrev pub words_of : BoardView → List ℕ
words_of b = map progress b.places

-- the board with these places
abbrev pub placed : BoardView → List Stage → BoardView
placed b ps = record { origin = b.origin; places = ps }
