use Rattle.glass_main.proofs.BanksGoOn.{saved-banks-go-on}
use Rattle.run_laws.proofs.laws.saved_banks_go_on.Goals as goal

pub returns : goal.returns
returns c = λ planned starts e until plans begin upto within fit. saved-banks-go-on planned starts e until plans begin upto within fit
