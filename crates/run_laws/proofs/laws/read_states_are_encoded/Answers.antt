use Rattle.glass_main.proofs.SavedStates.{read-encoded}
use Rattle.run_laws.proofs.laws.read_states_are_encoded.Goals as goal

pub returns : goal.returns
returns c = λ plan bytes base lawful are is. read-encoded plan bytes base lawful are is
