-- What contracts see of an end and of a stop.
use Rattle.std.specs.Arc.{arc_value}
use Rattle.exchange_board.specs.declared.ended.Ended.TheInside as ended
use Rattle.exchange_board.specs.declared.ended.RaggedEnded.TheInside as ragged
use Rattle.exchange_board.specs.Views.{EndedView, RaggedEndedView}

-- of the end of a board whose slots have all ended
abbrev pub ended_view : ended.Inside → EndedView
ended_view d = record { origin = arc_value d.origin; stand = d.stand; records = d.records }

-- of a stop
abbrev pub ragged_view : ragged.Inside → RaggedEndedView
ragged_view d = record { origin = arc_value d.origin; stand = d.stand; records = d.records }
