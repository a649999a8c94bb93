use Rattle.std.proofs.Common.{refl}
use Rattle.potts_glass.proofs.update.alone.Goals as goal

pub returns : goal.returns
returns c = λ b. refl
