-- The row of the key is the one that its test is given.
use Rattle.std.proofs.Common.{sym, ap, ◌∙◌}
use Rattle.toml.specs.View.{view}
use Rattle.run_plan.specs.RunFile.{row_of, value_refusal}
use Rattle.run_plan.proofs.lawful.refuse_value.Goals as goal

pub returns-in-Rule : goal.returns-in-Rule
returns-in-Rule c = c.word.ensures ∙ ap (λ row. value_refusal c.args.key row (view c.args.value.now)) (sym (ap row_of c.in-Rule.is))
