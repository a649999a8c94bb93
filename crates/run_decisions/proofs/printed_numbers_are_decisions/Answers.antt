use Rattle.run_decisions.proofs.Printed.{printed-are}
use Rattle.run_decisions.proofs.printed_numbers_are_decisions.Goals as goal

pub returns : goal.returns
returns c = printed-are
