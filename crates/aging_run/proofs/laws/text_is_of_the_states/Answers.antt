use Rattle.aging_run.proofs.SameTexts.{text-of-the-states}
use Rattle.aging_run.proofs.laws.text_is_of_the_states.Goals as goal

pub returns : goal.returns
returns c = text-of-the-states
