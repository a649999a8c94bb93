use Rattle.quenched_states.proofs.Fields.{triangles}
use Rattle.quenched_states.proofs.copies.triangles_hold.Goals as goal

pub returns : goal.returns
returns c = triangles
