-- A sample's bit is set where its two spins agree.
use Rattle.std.proofs.Common.{◌≡◌, Bool, true, false, not, refl, arith}
use Rattle.multispin_word.specs.Planes.{is_set, differs}
use Rattle.multispin_word.proofs.Bits.{is_set-xor, is_set-not}
use Rattle.scalar_rule.specs.Neighbours.{agree}
use Rattle.overlap_lines.proofs.counting.overlap.Goals as goal

alike : (a b : Bool) → differs (not a) b ≡ agree a b
alike true b = refl
alike false b = refl

pub returns : goal.returns
returns c = λ b h. rw (is_set-xor, is_set-not c.args.first b (omega arith) h) (alike (is_set c.args.first b) (is_set c.args.second b))
