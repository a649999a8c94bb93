use Rattle.scalar_rule.specs.Epoch.{slot_at, record_of}
use Rattle.scalar_rule.proofs.Written.{Written}
use Rattle.scalar_rule.proofs.epoch.write_records.Given as goal

abbrev pub invariant-records : goal.invariant-records
invariant-records l = Written (λ t. record_of l.plan l.bit (slot_at l.slots t)) l.fn.rows l.rows l.slot
