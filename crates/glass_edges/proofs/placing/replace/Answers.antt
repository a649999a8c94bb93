-- Without a fresh name nothing is done.
use Rattle.glass_edges.proofs.SaveParts.{nameless}
use Rattle.glass_edges.proofs.placing.replace.Goals as goal

pub returns-in_err-fresh : goal.returns-in_err-fresh
returns-in_err-fresh g c = nameless c.args.name.now c.args.bytes.now _ _ c.from_residual.ensures.0 c.in_err-fresh.ensures.long
