use Rattle.glass_edges.proofs.Writing.{fronts-none, fronts-more, fronts-stopped}
use Rattle.spin_model.proofs.Joined.{joined-zero, joined-more, joined-at}
use Rattle.sums_report.proofs.writer.add_slot.Goals as goal

pub bins-init : goal.bins-init
bins-init g c = fronts-none (joined-zero _ _)

pub bins-preserved : goal.bins-preserved
bins-preserved g c = fronts-more _ _ _ c.bins.invariant c.in_ok-add_bin.ensures (joined-more _ _ c.bins.k)

pub returns-in_err-add_bin : goal.returns-in_err-add_bin
returns-in_err-add_bin g c = fronts-stopped _ _ _ _ c.from_residual.ensures.0 c.bins.invariant c.in_err-add_bin.ensures (joined-at _ _ c.bins.k _ c.bins-test.true)
