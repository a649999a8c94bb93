use Rattle.quench_report.proofs.Samples.{text-same}
use Rattle.quench_report.proofs.writer.text_is_the_samples.Goals as goal

pub returns : goal.returns
returns c = text-same
