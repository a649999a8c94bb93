-- The counts of all slots are those of the state.
use Rattle.glass_edges.proofs.Writing.{writes-same}
use Rattle.overlap_lines.proofs.CountedTexts.{text-is}
use Rattle.overlap_lines.proofs.printing.write_lines.Goals as goal

pub returns : goal.returns
returns g c = writes-same (text-is c.args.plan.now c.args.base.now c.count_slots.new.counts c.args.samples c.requires.fits c.count_slots.ensures c.requires.few) c.put_text.ensures
