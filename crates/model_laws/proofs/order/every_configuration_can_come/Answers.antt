use Rattle.model_laws.proofs.Reached.{every-configuration}
use Rattle.model_laws.proofs.order.every_configuration_can_come.Goals as goal

pub returns : goal.returns
returns c = every-configuration
