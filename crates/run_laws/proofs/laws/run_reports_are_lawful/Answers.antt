use Rattle.run_laws.proofs.RunReports.{run-lawful}
use Rattle.run_laws.proofs.laws.run_reports_are_lawful.Goals as goal

pub returns : goal.returns
returns c = λ planned from until lawful orders begins kept upto within. run-lawful planned from until lawful orders begins kept upto within
