-- What holds of the amount that a run prints, where another run of the same plan and orders is not refused for its own.
use Rattle.std.specs.Prelude.{◌≡◌, ℕ, ◌≤◌, None}
use Rattle.run_plan.specs.Amounts.{rows_refusal, amount_refusal}
use Rattle.run_plan.specs.declared.run_file.Orders.{Orders}
use Rattle.scalar_rule.specs.Plan.{Plan}

-- beside a run from epoch `from` to epoch `until` another one, from epoch `start` to epoch `end`: it is refused for its rows
-- alone; and where it begins no sooner and ends no later it isn't refused
pub record IsRefusedBeside (plan : Plan) (orders : Orders) (from until start end : ℕ) : Type 0 where
  pub rows_alone : amount_refusal plan orders start end ≡ rows_refusal plan orders start end
  pub part : from ≤ start → end ≤ until → amount_refusal plan orders start end ≡ None

-- so of runs that go on from one another none is refused for its amount, where the one run isn't that goes as far
abbrev pub PartsAreAccepted : Type 0
PartsAreAccepted = (plan : Plan) (orders : Orders) (from until start end : ℕ) → 1 ≤ orders.every → amount_refusal plan orders from until ≡ None
    → IsRefusedBeside plan orders from until start end
