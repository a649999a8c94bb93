-- What `age` prints.
use Rattle.std.specs.Prelude.{ℕ, List}
use Rattle.aging_run.specs.Aging.{aging_text}
use Rattle.scalar_rule.specs.Opening.{opening}
use Rattle.glass_main.specs.declared.planned.Planned.{Planned}

-- the aging run of a plan from the states that its samples begin with
abbrev pub age_text : Planned → ℕ → List ℕ → List ℕ
age_text planned wait times = aging_text planned.plan planned.orders.samples wait times (opening planned.plan planned.orders.start 0)
