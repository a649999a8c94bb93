-- Past the last plane there is a zero.
use Rattle.std.proofs.Common.{sym, arith}
use Rattle.std.proofs.lemmas.List.{get_or_past}
use Rattle.bit_compare.proofs.addition.plane.Goals as goal

pub returns-else-w : goal.returns-else-w
returns-else-w g c = sym (get_or_past c.args.words.now c.args.w 0 (omega arith))
