use Rattle.coupling_set.proofs.KeptPlanes.{kept_plane-end}
use Rattle.coupling_set.proofs.bond_words.plane_start.Goals as goal

pub returns-clause-within : goal.returns-clause-within
returns-clause-within c = kept_plane-end c.args.size c.args.d c.args.colour c.args.z c.requires.direction c.requires.colour c.requires.plane
