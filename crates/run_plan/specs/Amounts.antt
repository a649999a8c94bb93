-- How much a run prints, and when that is too much.
use Rattle.std.specs.Prelude.{ℕ, ◌*◌, ◌&&◌, nat_lt, if◌then◌else◌, Option, Some, None}
use Rattle.glass_edges.specs.Refusals.{or_else}
use Rattle.spin_model.specs.Lattice.{volume}
use Rattle.spin_model.specs.Limits.{most_rows}
use Rattle.scalar_rule.specs.Plan.{Plan, slots_of}
use Rattle.scalar_rule.specs.Records.{recorded_epochs}
use Rattle.run_plan.specs.declared.run_file.Orders.{Orders}
use Rattle.run_plan.specs.declared.refused.PlanRefused.{PlanRefused}
use Rattle.run_plan.specs.declared.refused.PlanRefused.TheVariants as refused

-- the most spins that a run prints
abbrev pub most_spins : ℕ
most_spins = 268435456

-- the spins of a state: of each printed sample and slot those of two replicas
abbrev pub spin_bits : Plan → Orders → ℕ
spin_bits plan orders = orders.samples * slots_of plan * 2 * volume plan.size

-- the rows: of each recorded epoch one for each printed sample and slot
abbrev pub row_count : Plan → Orders → ℕ → ℕ → ℕ
row_count plan orders from until = orders.samples * slots_of plan * recorded_epochs orders.every from until

-- spins are refused where they are to be printed and would be too many
abbrev pub spins_refusal : Plan → Orders → Option PlanRefused
spins_refusal plan orders =
    if orders.spins && nat_lt most_spins (spin_bits plan orders) then Some (refused.Spins (spin_bits plan orders)) else None

-- rows are refused where they would be more than 2 ^ 22
abbrev pub rows_refusal : Plan → Orders → ℕ → ℕ → Option PlanRefused
rows_refusal plan orders from until =
    if nat_lt most_rows (row_count plan orders from until) then Some (refused.Rows (row_count plan orders from until)) else None

-- why a run from epoch `from` to epoch `until` is refused: first for its spins, then for its rows
unfoldable pub amount_refusal : Plan → Orders → ℕ → ℕ → Option PlanRefused
amount_refusal plan orders from until = or_else (spins_refusal plan orders) (rows_refusal plan orders from until)
