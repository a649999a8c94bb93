use Rattle.run_laws.proofs.UnevenReports.{ended-lawful}
use Rattle.run_laws.proofs.laws.ended_reports_are_lawful.Goals as goal

pub returns : goal.returns
returns c = λ run d end kept. ended-lawful run d end kept
