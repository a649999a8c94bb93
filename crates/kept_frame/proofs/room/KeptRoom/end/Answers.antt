use Rattle.std.proofs.Common.{arith}
use Rattle.sha2.proofs.Facts256.{length-sha256}
use Rattle.kept_frame.proofs.room.KeptRoom.end.Goals as goal

pub returns-clause-spare : goal.returns-clause-spare
returns-clause-spare c = omega (arith, c.put.ensures.spare, length-sha256 c.args.self.now.bytes)
