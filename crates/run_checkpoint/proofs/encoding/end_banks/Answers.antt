use Rattle.std.proofs.Common.{arith}
use Rattle.sha2.proofs.Facts256.{length-sha256}
use Rattle.run_checkpoint.proofs.encoding.end_banks.Goals as goal

pub returns-clause-spare : goal.returns-clause-spare
returns-clause-spare c = omega (arith, c.seal.ensures.spare, length-sha256 c.args.room.now.bytes)
