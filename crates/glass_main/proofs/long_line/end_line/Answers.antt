use Rattle.std.proofs.Common.{refl, codes}
use Rattle.glass_edges.proofs.Writing.{fronts-placed, fronts-broken, fronts-put}
use Rattle.glass_main.proofs.long_line.end_line.Goals as goal

pub returns-in_err-make_room : goal.returns-in_err-make_room
returns-in_err-make_room g c = fronts-broken (codes "\n") c.from_residual.ensures.0 c.in_err-make_room.ensures.written refl

pub returns : goal.returns
returns g c = fronts-put (fronts-placed (codes "\n") c.in_ok-make_room.ensures.written c.add.ensures refl) c.put.ensures.written
