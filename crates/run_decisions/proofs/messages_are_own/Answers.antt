use Rattle.run_decisions.proofs.Messages.{messages-own}
use Rattle.run_decisions.proofs.messages_are_own.Goals as goal

pub returns : goal.returns
returns c = messages-own
