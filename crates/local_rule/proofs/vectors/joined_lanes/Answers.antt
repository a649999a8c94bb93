use Rattle.std.proofs.Common.{bit_or, get_or}
use Rattle.multispin_word.proofs.Bits.{is_set-or}
use Rattle.local_rule.proofs.Lanes.{long, at}
use Rattle.local_rule.proofs.vectors.joined_lanes.Goals as goal

pub returns-clause-length : goal.returns-clause-length
returns-clause-length g c = long bit_or c.args.a c.args.b c.requires.0 c.requires.1

pub returns-clause-joined : goal.returns-clause-joined
returns-clause-joined g c = λ i k h.
    rw (at bit_or c.args.a c.args.b i c.requires.0 c.requires.1 h) (is_set-or (get_or c.args.a i 0) (get_or c.args.b i 0) k)
