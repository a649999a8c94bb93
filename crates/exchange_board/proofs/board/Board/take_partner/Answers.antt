use Rattle.std.proofs.Common.{arith}
use Rattle.exchange_board.proofs.Pairing.{out-below}
use Rattle.exchange_board.proofs.board.Board.take_partner.Goals as goal

pub take-mate-requires-clause-ready : goal.take-mate-requires-clause-ready
take-mate-requires-clause-ready c =
    let below = out-below c.self.inside c.args.self.now c.args.job.slot c.args.job.epoch c.self.invariant c.self.view_is c.requires.known c.requires.out in
    (omega arith, omega arith)
