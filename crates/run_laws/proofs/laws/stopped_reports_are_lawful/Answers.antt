use Rattle.run_laws.proofs.RunReports.{stopped-lawful}
use Rattle.run_laws.proofs.laws.stopped_reports_are_lawful.Goals as goal

pub returns : goal.returns
returns c = λ planned from until takes came lawful orders begins kept within comes. stopped-lawful planned from until takes came lawful orders begins kept within comes
