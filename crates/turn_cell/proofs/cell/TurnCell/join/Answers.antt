-- A join keeps the invariant.
use Rattle.std.proofs.Common.{ap, ◌∙◌}
use Rattle.turn_cell.specs.Seats.{carried}
use Rattle.turn_cell.proofs.Parting.{joins}
use Rattle.turn_cell.proofs.cell.TurnCell.join.Goals as goal

pub join_seat-requires : goal.join_seat-requires
join_seat-requires g c =
    let kept = c.requires.own.0 in
    let other = c.requires.own.1 in
    let calm = c.requires.other in
    let mine = c.args.kept.now.seat in
    let theirs = c.args.other.seat in
    let keeps = joins g.V.Kept.origin g.V.Kept.marks mine.id mine.me.0 theirs.id theirs.me.0 kept.stands calm.0 calm.1 in
    (kept.same, other.same, other.carries ∙ ap carried calm.0, c.args.self.now.sized.0, keeps)
