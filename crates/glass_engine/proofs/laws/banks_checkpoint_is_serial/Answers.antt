use Rattle.glass_engine.proofs.BankLaws.{checkpoint-serial}
use Rattle.glass_engine.proofs.laws.banks_checkpoint_is_serial.Goals as goal

pub returns : goal.returns
returns c = λ plans stands starts orders until kind some s. checkpoint-serial plans stands starts orders until kind some s
