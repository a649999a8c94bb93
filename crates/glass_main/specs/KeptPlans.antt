-- What the plans of a run of several banks keep.
use Rattle.std.specs.Prelude.{◌≡◌, ◌<◌, length, map}
use Rattle.std.specs.Arc.{arc_value}
use Rattle.run_checkpoint.specs.BankEncoding.{HaveOneShape}
use Rattle.run_plan.specs.RunFile.{AreOrdersOfBanks}
use Rattle.glass_main.specs.ManyBanks.{PlannedBanks, bank_count}
use Rattle.glass_main.specs.declared.plans.PlannedBanks.TheInside.{Inside}

abbrev pub banks_view : Inside → PlannedBanks
banks_view p = record { plans = map arc_value p.plans.items; orders = p.orders }

-- one plan for each bank, all of one size and with as many slots; the orders are lawful and need more than one bank
pub record KeepsPlans (p : Inside) : Type 0 where
  pub count : length p.plans.items ≡ bank_count p.orders.samples
  pub several : 64 < p.orders.samples
  pub orders_are : AreOrdersOfBanks p.orders
  pub shape : HaveOneShape (map arc_value p.plans.items)
