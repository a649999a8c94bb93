-- A run before and after it is driven.
use Rattle.std.specs.Prelude.{◌≡◌, ℕ, ◌+◌, ◌-◌, ◌*◌, ◌≤◌, ◌⊎◌, min, List}
use Rattle.spin_model.specs.Limits.{last_epoch}
use Rattle.scalar_rule.specs.Plan.{Plan, slots_of}
use Rattle.scalar_rule.specs.Positions.{sum_below, done, position_in}
use Rattle.scalar_rule.specs.Ragged.{Position, UnevenState}
use Rattle.run_plan.specs.declared.run_file.Orders.{Orders}
use Rattle.plane_sweep.specs.Uneven.{positions_of, uneven_part}
use Rattle.plane_sweep.specs.declared.uneven.RaggedStand.{RaggedStand}
use Rattle.exchange_board.specs.declared.origin.Origin.{Origin}
use Rattle.exchange_board.specs.Answers.{stages_of}
use Rattle.exchange_board.specs.Content.{plan_of, slots_in, taken_before, IsLawfulOrigin}
use Rattle.exchange_board.specs.Machine.{taken, AllEnded}
use Rattle.exchange_board.specs.Stops.{IsStop}
use Rattle.exchange_board.specs.Views.{RaggedEndedView}
use Rattle.glass_engine.specs.declared.run.SaveKind.{SaveKind}

-- what a run was opened with: the plan, the state that it starts from, the orders, the epoch at which it ends, how many
-- times it hands out a slot at most, and which checkpoint is to be saved
pub record RunView : Type 0 where
  pub plan : Plan
  pub base : RaggedStand
  pub orders : Orders
  pub until : ℕ
  pub takes : ℕ
  pub saves : SaveKind

-- the orders that a run can have: 1 to 64 printed samples, and of each 1 to 1000000000 epochs the last is recorded; the
-- epoch at which a run ends is given beside its orders
pub record AreRunOrders (orders : Orders) : Type 0 where
  pub some_samples : 1 ≤ orders.samples
  pub few_samples : orders.samples ≤ 64
  pub some_every : 1 ≤ orders.every
  pub every : orders.every ≤ last_epoch

-- the states that the samples start with
abbrev pub starts : RunView → ℕ → UnevenState
starts run b = uneven_part run.plan.size b run.base

-- a run at its end: what it was opened with, and what its board ended with
pub record DoneView : Type 0 where
  pub run : RunView
  pub ended : RaggedEndedView

-- a board's origin is what a run was opened with
pub record IsOriginOf (run : RunView) (o : Origin) : Type 0 where
  pub plan_is : plan_of o ≡ run.plan
  pub base_is : o.base ≡ run.base
  pub until_is : o.window.until ≡ run.until
  pub every_is : o.window.every ≡ run.orders.every
  pub samples_is : o.window.samples ≡ run.orders.samples
  pub takes_is : o.window.takes ≡ run.takes

-- how many hand-outs of a slot lead to positions, each slot's counted from epoch 0
abbrev pub hand_outs : Plan → List Position → ℕ
hand_outs plan ps = sum_below (λ t. done (position_in ps t)) (slots_of plan)

-- the board was opened with what the run was opened with, which is lawful; it ended with each slot's content and the records of the rule at
-- its places; every slot is at rest at until, or all hand-outs are made; and as many were made as may be, or as were left to until
pub record IsEnd (run : RunView) (d : RaggedEndedView) : Type 0 where
  pub origin : IsOriginOf run d.origin
  pub lawful : IsLawfulOrigin d.origin
  pub stop : IsStop d.origin d
  pub finished : AllEnded run.until (stages_of d.stand) ⊎ (taken (stages_of d.stand) ≡ taken_before d.origin + run.takes)
  pub made : hand_outs (plan_of d.origin) (positions_of d.stand) ≡ taken_before d.origin + min run.takes (slots_in d.origin * run.until - taken_before d.origin)
