use Rattle.std.proofs.Common.{drop, ◌*◌}
use Rattle.run_checkpoint.specs.Lengths.{plane_len}
use Rattle.run_checkpoint.specs.Reading.{plane_in}
use Rattle.run_checkpoint.proofs.Items.{Filled}
use Rattle.run_checkpoint.proofs.reading.fill_planes.Given as goal

abbrev pub invariant-planes : goal.invariant-planes
invariant-planes l = Filled (λ i. plane_in l.size (drop (plane_len l.size * i) l.bytes)) l.k l.fn.planes l.planes
