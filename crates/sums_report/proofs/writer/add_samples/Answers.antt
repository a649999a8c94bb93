use Rattle.glass_edges.proofs.Writing.{fronts-none, fronts-more, fronts-stopped}
use Rattle.spin_model.proofs.Joined.{joined-zero, joined-more, joined-at}
use Rattle.sums_report.proofs.writer.add_samples.Goals as goal

pub samples-init : goal.samples-init
samples-init g c = fronts-none (joined-zero _ _)

pub samples-preserved : goal.samples-preserved
samples-preserved g c = fronts-more _ _ _ c.samples.invariant c.in_ok-add_sample.ensures (joined-more _ _ c.samples.b)

pub returns-in_err-add_sample : goal.returns-in_err-add_sample
returns-in_err-add_sample g c = fronts-stopped _ _ _ _ c.from_residual.ensures.0 c.samples.invariant c.in_err-add_sample.ensures (joined-at _ _ c.samples.b _ c.samples-test.true)
