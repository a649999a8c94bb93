-- After w planes the total is the number in the first w planes.
use Rattle.std.proofs.Common.{◌≡◌}
use Rattle.multispin_word.specs.Planes.{first}
use Rattle.multispin_word.proofs.planes.Planes.number_at.Given as goal

abbrev pub invariant-planes : goal.invariant-planes
invariant-planes g l = l.total ≡ first l.self.words l.w l.sample
