use Rattle.run_checkpoint.proofs.OneEncoding.{one-uneven_encoding}
use Rattle.run_checkpoint.proofs.laws.uneven_encoding_is_one.Goals as goal

pub returns : goal.returns
returns c = λ samples every s t kept other first second. one-uneven_encoding c.args.plan.now samples every s t kept other c.lattice.ensures.lawful first second
