use Rattle.run_checkpoint.proofs.LevelClauses.{one-encoding}
use Rattle.run_checkpoint.proofs.laws.encoding_is_one.Goals as goal

pub returns : goal.returns
returns c = λ s t first second. one-encoding c.args.plan.now s t c.lattice.ensures.lawful first second
