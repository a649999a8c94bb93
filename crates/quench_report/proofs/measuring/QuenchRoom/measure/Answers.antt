use Rattle.std.proofs.Common.{List, subst, sym}
use Rattle.quench_report.specs.Held.{HasRoom}
use Rattle.quench_report.specs.declared.measuring.KeptSums.{KeptSums}
use Rattle.quench_report.proofs.measuring.QuenchRoom.measure.Goals as goal

pub returns-clause-room : goal.returns-clause-room
returns-clause-room c = λ few times has.
    c.measure_slots.ensures.room few times (subst (λ (xs : List KeptSums). HasRoom few times xs) (sym c.self.view_is) has)
