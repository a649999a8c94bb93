use Rattle.observable_laws.proofs.Quenched.{two-times}
use Rattle.observable_laws.proofs.two_times_are_aging.Goals as goal

pub returns : goal.returns
returns c = two-times
