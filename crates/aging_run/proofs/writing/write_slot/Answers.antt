use Rattle.std.proofs.Common.{refl}
use Rattle.glass_edges.proofs.Writing.{writes-more}
use Rattle.aging_run.proofs.writing.write_slot.Goals as goal

pub returns-clause-written : goal.returns-clause-written
returns-clause-written g c = writes-more c.in_ok-write_replica.ensures.written c.write_replica-2.ensures.written refl
