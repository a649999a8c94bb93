-- Each put adds the bytes behind those that were put.
use Rattle.std.proofs.Common.{arith, length, refl, ap}
use Rattle.glass_edges.proofs.all_bytes.put_all.Goals as goal

pub returns-clause-nothing : goal.returns-clause-nothing
returns-clause-nothing g c = λ h. (refl, c.pieces.invariant.untouched (omega (arith, ap length h)))
