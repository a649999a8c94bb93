-- What was put before is put, and of the next part a prefix.
use Rattle.std.proofs.Common.{refl}
use Rattle.glass_edges.proofs.Writing.{writes-more, writes-stopped}
use Rattle.sample_average.proofs.text.write_averages.Goals as goal

pub returns-in_err-put_slots : goal.returns-in_err-put_slots
returns-in_err-put_slots g c = writes-stopped _ c.from_residual-in_err-put_slots.ensures.0 c.in_ok-put_numbers.ensures c.in_err-put_slots.ensures refl

pub returns : goal.returns
returns g c = writes-more (writes-more c.in_ok-put_numbers.ensures c.in_ok-put_slots.ensures refl) c.put_all.ensures.written refl
