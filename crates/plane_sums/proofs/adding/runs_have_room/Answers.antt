use Rattle.plane_sums.proofs.SlotGrowth.{runs-have-room}
use Rattle.plane_sums.proofs.adding.runs_have_room.Goals as goal

pub returns : goal.returns
returns c = runs-have-room
