use Rattle.std.proofs.Common.{◌≡◌, ◌+◌, ◌*◌}
use Rattle.plane_sweep.specs.Beginnings.{Each, BeginsPlane}
use Rattle.scalar_rule.specs.declared.sample.Start.TheVariants.{Random}
use Rattle.spin_model.specs.Seeding.{start_words}
use Rattle.spin_model.specs.Stream.{advanced}
use Rattle.plane_sweep.proofs.opening.push_colour.Given as goal

abbrev pub invariant-planes : goal.invariant-planes
invariant-planes l = record {
  planes : Each (BeginsPlane l.plan l.beginning.start l.beginning.bank l.beginning.slot l.beginning.replica) (l.colour * l.plan.size + l.z) l.planes.items;
  wheel : l.beginning.start ≡ Random → l.wheel ≡ advanced (start_words l.plan.seed l.beginning.slot l.beginning.replica l.beginning.bank) (2 * (l.plan.size * l.plan.size) * l.z);
}
