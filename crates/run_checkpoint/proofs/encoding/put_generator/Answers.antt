use Rattle.std.proofs.Common.{arith}
use Rattle.run_checkpoint.proofs.encoding.put_generator.Goals as goal
use Rattle.spin_model.proofs.WordBytes.{length-words}

pub put_generator-requires : goal.put_generator-requires
put_generator-requires c = omega (arith, c.requires, c.words.ensures.sized, length-words 4 c.args.generator.now)
