-- The planes of the pairs so far are projected and stacked.
use Rattle.std.proofs.Common.{◌≡◌, ℕ, ◌*◌, ◌<◌}
use Rattle.spin_model.specs.Lattice.{site_at}
use Rattle.spin_model.specs.Steps.{count_below}
use Rattle.plane_sums.specs.Counts.{count_at, line_at}
use Rattle.plane_sums.specs.Families.{HasRoom}
use Rattle.plane_sums.specs.Lines.{agrees}
use Rattle.plane_sums.specs.Projected.{AreProjected, AreSheets}
use Rattle.plane_sums.proofs.projections.Projections.project.Given as goal

abbrev pub invariant-pairs : goal.invariant-pairs
invariant-pairs l = record {
  room : HasRoom l.self;
  sheets : AreSheets l.sheets;
  projected : AreProjected l.size (agrees l.size l.first.planes l.second.planes) (2 * l.pair) l.self;
  stacked : (y x b : ℕ) → y < l.size → x < l.size → b < 64 → count_at (line_at l.self.along_z y) x b
      ≡ count_below (λ z. agrees l.size l.first.planes l.second.planes b (site_at l.size x y z)) (2 * l.pair);
}
