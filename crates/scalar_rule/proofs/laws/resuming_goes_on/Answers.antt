use Rattle.scalar_rule.proofs.Resuming.{serial-serial}
use Rattle.scalar_rule.proofs.laws.resuming_goes_on.Goals as goal

pub returns : goal.returns
returns c = serial-serial
