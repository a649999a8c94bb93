use Rattle.potts_laws.proofs.HalfSweeps.{half-sweeps_are}
use Rattle.potts_laws.proofs.half_sweeps_are_updates.Goals as goal

pub returns : goal.returns
returns c = half-sweeps_are
