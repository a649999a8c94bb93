-- What holds of runs that stop, the last one too: one run comes to the state to which they come, and its report is theirs.
use Rattle.std.specs.Prelude.{◌≡◌, ℕ, ◌-◌, ◌≤◌, if◌then◌else◌, ◌&&◌, List, [], ◌++◌}
use Rattle.report_text.specs.Lines.{header_line, end_line}
use Rattle.run_plan.specs.RunFile.{AreLawfulOrders}
use Rattle.scalar_rule.specs.Plan.{IsLawfulPlan}
use Rattle.scalar_rule.specs.Positions.{floor_of}
use Rattle.plane_sweep.specs.Uneven.{positions_of}
use Rattle.plane_sweep.specs.declared.uneven.RaggedStand.{RaggedStand}
use Rattle.glass_engine.specs.Report.{all_rest}
use Rattle.glass_engine.specs.Runs.{hand_outs}
use Rattle.glass_main.specs.Beginnings.{Beginning, begins_at}
use Rattle.glass_main.specs.StopLaws.{IsBeginning, reached_by, AreLeft, last_of, all_rows}
use Rattle.glass_main.specs.Stops.{states_of, ComesTo, spins_at, stopped_text}
use Rattle.glass_main.specs.declared.planned.Planned.{Planned}

-- how many hand-outs of a slot lead from where a run begins to where it stops
abbrev pub hand_outs_between : Planned → Beginning → RaggedStand → ℕ
hand_outs_between planned from came = hand_outs planned.plan (positions_of came) - hand_outs planned.plan (states_of planned.plan from 0).positions

-- the one run that stops after as many hand-outs as all those runs made comes to the state; its report is: its header, the rows
-- of all those runs, one after the other, the end, and the spins where they stand; its checkpoint is that of the state, and so
-- the last run's
pub record StopsAddUp (planned : Planned) (until : ℕ) (from : Beginning) (left : List Beginning) (came : RaggedStand) : Type 0 where
  pub comes : ComesTo planned from until (hand_outs_between planned from came) came
  pub report : stopped_text planned from until (positions_of came)
      ≡ header_line planned.plan planned.orders.samples (begins_at from) (floor_of (positions_of came))
      ++ all_rows planned.plan planned.orders.samples planned.orders.every (floor_of (positions_of came)) from left
      ++ end_line (floor_of (positions_of came))
      ++ (if planned.orders.spins && all_rest until (positions_of came) then spins_at planned.plan planned.orders.samples (last_of from left) until else [])

-- however often, and wherever, runs were stopped, and wherever the last of them stops
abbrev pub StopsOfRunsAddUp : Type 0
StopsOfRunsAddUp = (planned : Planned) (until takes : ℕ) (from : Beginning) (left : List Beginning) (came : RaggedStand) → IsLawfulPlan planned.plan → AreLawfulOrders planned.orders
    → IsBeginning planned from → reached_by from ≤ until → AreLeft planned.plan planned.orders.samples planned.orders.every until from left
    → ComesTo planned (last_of from left) until takes came → StopsAddUp planned until from left came
