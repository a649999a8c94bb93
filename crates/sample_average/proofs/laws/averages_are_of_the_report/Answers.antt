use Rattle.sample_average.proofs.ReadReports.{averages-read}
use Rattle.sample_average.proofs.laws.averages_are_of_the_report.Goals as goal

pub returns : goal.returns
returns c = λ bytes blocks. averages-read bytes blocks
