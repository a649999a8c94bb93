-- A run's samples are kept in banks of 64. A command that has one bank refuses more samples.
use Rattle.std.specs.Prelude.{Bool, ◌&&◌, not, nat_lt, if◌then◌else◌, Option, Some, None}
use Rattle.spin_model.specs.Limits.{bank_samples}
use Rattle.run_plan.specs.declared.run_file.Orders.{Orders}
use Rattle.run_plan.specs.declared.refused.PlanRefused.{PlanRefused}
use Rattle.run_plan.specs.declared.refused.PlanRefused.TheVariants as refused

-- why a command refuses orders, that can run many banks or but one
abbrev pub banks_refusal : Orders → Bool → Option PlanRefused
banks_refusal orders many = if not many && nat_lt bank_samples orders.samples then Some (refused.Banks orders.samples) else None
