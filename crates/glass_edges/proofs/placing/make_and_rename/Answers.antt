-- The new file takes the name where it was made whole.
use Rattle.glass_edges.proofs.SaveParts.{unmade, renamed}
use Rattle.glass_edges.proofs.placing.make_and_rename.Goals as goal

pub returns-in_err-make_new : goal.returns-in_err-make_new
returns-in_err-make_new g c = unmade c.args.name.now c.args.fresh.now c.args.bytes.now c.requires _ _ _ _ c.from_residual.ensures.0 c.in_err-make_new.ensures

pub returns : goal.returns
returns g c = renamed c.args.name.now c.args.fresh.now c.args.bytes.now c.requires _ _ _ _ _ c.in_ok-make_new.ensures c.rename.ensures
