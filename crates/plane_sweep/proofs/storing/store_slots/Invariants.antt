use Rattle.scalar_rule.specs.Epoch.{slot_at}
use Rattle.plane_sweep.specs.Storing.{Changed, StoresDuo}
use Rattle.plane_sweep.proofs.storing.store_slots.Given as goal

abbrev pub invariant-slots : goal.invariant-slots
invariant-slots l = Changed (λ t. StoresDuo l.plan.size l.sample (slot_at l.parts t)) l.t l.fn.slots l.slots
