use Rattle.glass_main.proofs.ReadStops.{accepted}
use Rattle.run_laws.proofs.laws.accepted_checkpoints_are_encodings.Goals as goal

pub returns : goal.returns
returns c = λ planned until bytes from lawful orders are is. accepted planned until bytes from lawful orders are is
