use Rattle.std.proofs.Common.{drop, ◌*◌}
use Rattle.run_checkpoint.specs.Lengths.{slot_len}
use Rattle.run_checkpoint.specs.Reading.{slot_in}
use Rattle.run_checkpoint.proofs.Items.{Filled}
use Rattle.run_checkpoint.proofs.reading.fill_slots.Given as goal

abbrev pub invariant-slots : goal.invariant-slots
invariant-slots l = Filled (λ i. slot_in l.size (drop (slot_len l.size * i) l.bytes)) l.t l.fn.slots l.slots
