use Rattle.sums_report.proofs.HeldTexts.{text-same}
use Rattle.sums_report.proofs.writer.text_is_the_samples.Goals as goal

pub returns : goal.returns
returns c = text-same
