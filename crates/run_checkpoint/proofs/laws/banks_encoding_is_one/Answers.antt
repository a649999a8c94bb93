use Rattle.std.specs.Arc.{arc_value}
use Rattle.std.proofs.Common.{map}
use Rattle.run_checkpoint.proofs.OneEncoding.{one-banks_encoding}
use Rattle.run_checkpoint.proofs.laws.banks_encoding_is_one.Goals as goal

pub returns : goal.returns
returns c = λ epoch later s t first second. one-banks_encoding epoch later (map arc_value c.args.plans.now) s t c.read_lawful.ensures first second
