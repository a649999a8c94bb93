use Rattle.glass_edges.specs.Writes.{HasPut}
use Rattle.sample_average.specs.Averages.{slot_text, pieces}
use Rattle.sample_average.proofs.text.put_slots.Given as goal

abbrev pub invariant-slots : goal.invariant-slots
invariant-slots g l = HasPut g.O.Sink l.fn.out l.out (pieces (slot_text l.averages) l.slot)
