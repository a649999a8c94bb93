use Rattle.run_laws.proofs.BankReports.{banks-lawful}
use Rattle.run_laws.proofs.laws.banks_reports_are_lawful.Goals as goal

pub returns : goal.returns
returns c = λ planned starts until plans count begins rising within. banks-lawful planned starts until plans count begins rising within
