-- What the plans of a run that is measured keep, of one bank or of several, and the run as it is opened.
use Rattle.std.specs.Prelude.{◌≡◌, ◌*◌, ◌<◌, ◌≤◌, ℕ, List, length, map, Option, Some, None, Bool, true, false, Result}
use Rattle.std.specs.Arc.{arc_value}
use Rattle.glass_edges.specs.Refusals.{unless}
use Rattle.measured_run.specs.Runs.{RunView}
use Rattle.plane_sweep.specs.declared.stand.Stand.{Stand}
use Rattle.run_checkpoint.specs.BankEncoding.{HaveOneShape}
use Rattle.run_checkpoint.specs.declared.refused.CheckpointRefused.{CheckpointRefused}
use Rattle.run_plan.specs.RunFile.{AreOrdersOfBanks}
use Rattle.scalar_rule.specs.Plan.{Plan}
use Rattle.glass_main.specs.ManyBanks.{PlannedBanks}
use Rattle.glass_main.specs.MeasureRun.{level_banks_refusal, level_banks_in}
use Rattle.glass_main.specs.Resumes.{AreResumable}
use Rattle.glass_main.specs.declared.banked.Banked.TheInside.{Inside}
use Rattle.glass_main.specs.declared.measure.Measured.{Measured}

abbrev pub banked_view : Inside → PlannedBanks
banked_view p = record { plans = map arc_value p.plans.items; orders = p.orders }

-- 1 to 4 plans, all of one size and with as many slots; the orders are lawful, and need no more banks
pub record KeepsBanked (p : Inside) : Type 0 where
  pub some : 1 ≤ length p.plans.items
  pub few : length p.plans.items ≤ 4
  pub samples : p.orders.samples ≤ 64 * length p.plans.items
  pub orders_are : AreOrdersOfBanks p.orders
  pub shape : HaveOneShape (map arc_value p.plans.items)

-- the packed states of each bank that bytes are, or their first refusal
unfoldable pub level_banks_decoded : List Plan → ℕ → List ℕ → Result (List Stand) CheckpointRefused
level_banks_decoded plans until bytes = unless (level_banks_refusal plans until bytes) (level_banks_in plans bytes)

-- whether a checkpoint is placed
abbrev pub is_named : Option (List ℕ) → Bool
is_named None = false
is_named (Some name) = true

-- the run over which the sums are, from these packed states
abbrev pub run_of : PlannedBanks → List Stand → ℕ → Option (List ℕ) → RunView
run_of planned bases until name =
    record { plans = planned.plans; bases = bases; every = planned.orders.every; until = until; saves = is_named name }

-- a run that can be driven, printed and saved, with its plans
pub record IsReady (name : Option (List ℕ)) (measured : Measured) : Type 0 where
  pub some : 0 < length measured.planned.plans
  pub plans : measured.run.plans ≡ measured.planned.plans
  pub every : measured.run.every ≡ measured.planned.orders.every
  pub saves : measured.run.saves ≡ is_named name
  pub stands : AreResumable measured.planned.plans measured.run.until measured.run.bases
