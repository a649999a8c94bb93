-- It is opened, and then all is written.
use Rattle.glass_edges.proofs.SaveParts.{standing-placed, not-standing}
use Rattle.glass_edges.proofs.placing.write_standing.Goals as goal

pub returns-in_err-file : goal.returns-in_err-file
returns-in_err-file g c = not-standing c.args.name.now c.args.bytes.now _ _ _ _ c.from_residual.ensures.0 c.in_err-file.ensures.does

pub returns : goal.returns
returns g c = standing-placed c.args.name.now _ c.args.bytes.now _ _ _ _ c.in_ok-file.ensures.named c.in_ok-file.ensures.does.passed c.write_all.ensures.written
