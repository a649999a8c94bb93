-- The order of `age` as an order of the definitions, and the limits of its numbers.
use Rattle.std.specs.Prelude.{◌≤◌, take}
use Rattle.spin_model.specs.Limits.{most_sweeps}
use Rattle.aging_run.specs.Aging.{AreTimes}
use Rattle.command_words.specs.AgeWords as model
use Rattle.command_words.specs.declared.age_words.AgeOrder.{AgeOrder}

-- the order of `age`
abbrev pub read_age_order : AgeOrder → model.AgeOrder
read_age_order order = record { run = order.run.now; wait = order.wait; times = take order.count order.values }

-- a waiting time up to a million, and lawful times
pub record IsLawfulAge (order : AgeOrder) : Type 0 where
  pub wait : order.wait ≤ most_sweeps
  pub few : order.count ≤ 32
  pub times : AreTimes (take order.count order.values)
