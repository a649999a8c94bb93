use Rattle.std.proofs.Common.{map, sym, subst}
use Rattle.plane_sweep.specs.Uneven.{position_of}
use Rattle.exchange_board.specs.declared.origin.Origin.{Origin}
use Rattle.exchange_board.specs.Stops.{IsAhead, HasAhead, KeepsAhead}
use Rattle.exchange_board.specs.BoardKeeps.{places_of}
use Rattle.exchange_board.proofs.BoardReads.{phased-of}
use Rattle.exchange_board.proofs.Ends.{all-home}
use Rattle.exchange_board.proofs.Stages.{stages-are}
use Rattle.exchange_board.proofs.Stopping.{ahead-of, has-ahead, stop-is}
use Rattle.exchange_board.proofs.board.Board.stopped.Goals as goal

pub kept_records-pending-requires-clause-ahead : goal.kept_records-pending-requires-clause-ahead
kept_records-pending-requires-clause-ahead c =
    let P : Origin → Type 0 = λ o. IsAhead o (map position_of c.stops-places.result) in
    subst P (sym c.deref.ensures) (ahead-of c.self.inside c.stops-places.result c.self.invariant (rw (← c.self.view_is) at c.requires) c.stops-places.ensures)

pub kept_records-pending-requires-clause-rows : goal.kept_records-pending-requires-clause-rows
kept_records-pending-requires-clause-rows c =
    let P : Origin → Type 0 = λ o. HasAhead o (map position_of c.stops-places.result) c.self.inside.records in
    subst P (sym c.deref.ensures) (has-ahead c.self.inside c.stops-places.result c.self.invariant (rw (← c.self.view_is) at c.requires) c.stops-places.ensures)

pub emptied-requires-clause-home : goal.emptied-requires-clause-home
emptied-requires-clause-home c = λ t d h. all-home c.self.inside c.self.invariant (rw (← c.self.view_is) at c.requires) t d h

pub returns-clause-places : goal.returns-clause-places
returns-clause-places c =
    let b = c.self.inside in
    rw (← c.self.view_is) (stages-are (places_of b) c.stops-places.result c.stops-places.ensures (rw (← c.self.view_is) at c.requires) (phased-of b c.self.invariant))

pub returns-clause-stop : goal.returns-clause-stop
returns-clause-stop c =
    let b = c.self.inside in
    let P : Origin → Type 0 = λ o. KeepsAhead o (map position_of c.stops-places.result) c.kept_records-pending.result in
    let kept = subst P c.deref.ensures c.kept_records-pending.ensures.kept in
    rw (← c.self.view_is) (stop-is b c.stops-places.result c.emptied.result c.kept_records-pending.result c.self.invariant (rw (← c.self.view_is) at c.requires) c.stops-places.ensures c.emptied.ensures kept c.kept_records-pending.ensures.fits)
