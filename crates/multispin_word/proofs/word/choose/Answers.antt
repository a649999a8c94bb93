-- Each bit is one of the two, by the mask.
use Rattle.multispin_word.proofs.Bits.{is_set-choose}
use Rattle.multispin_word.proofs.word.choose.Goals as goal

pub returns : goal.returns
returns c = λ b h. is_set-choose c.args.mask c.args.inside c.args.outside b
