-- The words are those that were read.
use Rattle.std.proofs.Common.{ap, length, refl, arith}
use Rattle.run_checkpoint.proofs.Items.{words-written}
use Rattle.run_checkpoint.proofs.reading.fill_words.Goals as goal

pub returns : goal.returns
returns c =
    words-written (length c.args.words.now) 8 c.args.count c.args.bytes.now c.read_u64_into.new.dst c.args.words.now
    refl (omega (arith, c.read_u64_into.auto.dst, ap length c.as_mut_slice.ensures.value)) c.requires.count c.read_u64_into.ensures
