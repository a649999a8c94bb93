use Rattle.std.proofs.Common.{◌^◌, ◌-◌, get_or}
use Rattle.model_laws.proofs.Balancing.{opposite-fields}
use Rattle.model_laws.proofs.balance.opposite_fields_add_up.Goals as goal

pub returns : goal.returns
returns c = λ a b thresholds j six some first second. opposite-fields (2 ^ 32) (get_or thresholds j 0) (get_or thresholds (6 - j) 0) a b j six some first.near second.near
