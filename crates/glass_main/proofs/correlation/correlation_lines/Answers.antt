use Rattle.glass_main.proofs.ReadBytes.{gathers-undone}
use Rattle.glass_main.proofs.correlation.correlation_lines.Goals as goal

pub returns-in-Err-clause-bytes : goal.returns-in-Err-clause-bytes
returns-in-Err-clause-bytes g c = gathers-undone _ _ _ _ _ _ c.in-Err.ensures.asked
