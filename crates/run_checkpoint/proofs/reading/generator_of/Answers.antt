-- The words are those that were read.
use Rattle.std.proofs.Common.{◌∙◌, arith}
use Rattle.run_checkpoint.proofs.Items.{words-read}
use Rattle.run_checkpoint.proofs.reading.generator_of.Goals as goal

pub returns : goal.returns
returns c = c.from_words.ensures ∙ words-read 4 61 c.args.bytes.now _ (omega (arith, c.read_u32_into.auto.dst)) c.read_u32_into.ensures
