-- A split keeps the invariant.
use Rattle.turn_cell.proofs.Parting.{splits}
use Rattle.turn_cell.proofs.cell.TurnCell.split.Goals as goal

pub split_seat-seat-requires : goal.split_seat-seat-requires
split_seat-seat-requires g c = (c.requires.own.same, c.args.self.now.sized.0, splits g.V.Kept.origin g.V.Kept.marks c.args.pass.now.seat.id c.args.pass.now.seat.me.0 c.requires.two)
