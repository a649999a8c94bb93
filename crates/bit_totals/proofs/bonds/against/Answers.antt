use Rattle.std.proofs.Common.{bit_xor, get_or}
use Rattle.multispin_word.proofs.Bits.{is_set-xor}
use Rattle.local_rule.proofs.Lanes.{long, at}
use Rattle.bit_totals.proofs.bonds.against.Goals as goal

pub returns-clause-length : goal.returns-clause-length
returns-clause-length c = long bit_xor c.args.bits c.args.words c.requires.0 c.requires.1

pub returns-clause-differing : goal.returns-clause-differing
returns-clause-differing c = λ i k h.
    rw (at bit_xor c.args.bits c.args.words i c.requires.0 c.requires.1 h) (is_set-xor (get_or c.args.bits i 0) (get_or c.args.words i 0) k)
