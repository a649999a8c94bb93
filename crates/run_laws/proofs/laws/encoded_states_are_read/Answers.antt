use Rattle.glass_main.proofs.SavedStates.{encoded-read}
use Rattle.run_laws.proofs.laws.encoded_states_are_read.Goals as goal

pub returns : goal.returns
returns c = λ plan states lawful are time. encoded-read plan states lawful are time
