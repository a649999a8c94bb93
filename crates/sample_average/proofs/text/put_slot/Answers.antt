use Rattle.std.proofs.Common.{refl}
use Rattle.glass_edges.proofs.Writing.{writes-more}
use Rattle.sample_average.proofs.text.put_slot.Goals as goal

pub returns : goal.returns
returns g c = writes-more c.in_ok-put_sum.ensures c.put_blocks.ensures refl
