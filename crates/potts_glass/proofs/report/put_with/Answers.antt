use Rattle.glass_edges.proofs.Writing.{writes-none, writes-more, writes-stopped}
use Rattle.potts_glass.proofs.Samples.{samples-none, samples-more, samples-at}
use Rattle.potts_glass.proofs.report.put_with.Goals as goal

pub samples-init : goal.samples-init
samples-init g c = writes-none (samples-none c.args.potts.now)

pub samples-preserved : goal.samples-preserved
samples-preserved g c = writes-more c.samples.invariant c.in_ok-put_sample.ensures (samples-more c.args.potts.now c.samples.b)

pub returns-in_err-put_sample : goal.returns-in_err-put_sample
returns-in_err-put_sample g c =
    writes-stopped _ c.from_residual.ensures.0 c.samples.invariant c.in_err-put_sample.ensures (samples-at c.args.potts.now c.samples.b c.args.samples c.samples-test.true)
