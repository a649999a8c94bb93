-- The low half has the first 32 samples, the high half the others.
use Rattle.multispin_word.proofs.Halves.{is_set-joined}
use Rattle.multispin_word.proofs.word.joined.Goals as goal

pub returns : goal.returns
returns c = λ b below. is_set-joined c.args.low c.args.high b c.ranges.low.fits c.ranges.high.fits below
