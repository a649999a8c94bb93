use Rattle.std.proofs.Common.{◌<◌, ◌≤◌, length, sym, subst}
use Rattle.plane_sweep.specs.Uneven.{place_at}
use Rattle.plane_sweep.specs.declared.uneven.RaggedStand.{RaggedStand}
use Rattle.glass_engine.proofs.Reporting.{stop-short}
use Rattle.glass_engine.proofs.done.BankDone.to.Goals as goal

pub floor-requires-clause-short : goal.floor-requires-clause-short
floor-requires-clause-short c = λ t.
    let d = c.self.inside.ended in
    let e = c.self.invariant.ended in
    subst (λ (s : RaggedStand). t < length s.places → (place_at s.places t).epoch ≤ 1000000000) (sym c.stand.ensures) (stop-short d.origin d t e.lawful e.stop)
