use Rattle.model_laws.proofs.Alone.{others-dont-matter}
use Rattle.model_laws.proofs.packing.other_samples_dont_matter.Goals as goal

pub returns : goal.returns
returns c = others-dont-matter
