-- A run of one bank is accepted where its amount is not refused.
use Rattle.std.proofs.Common.{◌≡◌, ℕ, ◌<◌, Option, None, Ok, ap, ◌∙◌}
use Rattle.glass_edges.specs.Refusals.{unless}
use Rattle.plane_sweep.specs.Uneven.{positions_of}
use Rattle.plane_sweep.specs.declared.uneven.RaggedStand.{RaggedStand}
use Rattle.run_plan.specs.Amounts.{amount_refusal}
use Rattle.scalar_rule.specs.Plan.{slots_of}
use Rattle.scalar_rule.specs.Positions.{floor_of}
use Rattle.glass_main.specs.declared.planned.Planned.{Planned}
use Rattle.glass_main.specs.declared.refusal.Refusal.TheVariants as refused
use Rattle.glass_main.specs.Beginnings.{Beginning, begins_at, IsBaseOf}
use Rattle.glass_main.specs.Request.{RunWork, told_as, run_work}
use Rattle.glass_main.proofs.StoppedRuns.{base-floor}

work-accepted : (stop_after : Option ℕ) (planned : Planned) (e : ℕ) (from : Beginning) → amount_refusal planned.plan planned.orders (begins_at from) e ≡ None
    → run_work stop_after planned e from ≡ Ok (RunWork planned from e stop_after)
unfolding run_work
work-accepted stop_after planned e from none = ap (λ found. told_as refused.Plan (unless found (RunWork planned from e stop_after))) none

-- by the packed state
pub base-accepted : (stop_after : Option ℕ) (planned : Planned) (base : RaggedStand) (e : ℕ) (from : Beginning) → 0 < slots_of planned.plan → IsBaseOf planned.plan from base
    → amount_refusal planned.plan planned.orders (floor_of (positions_of base)) e ≡ None → run_work stop_after planned e from ≡ Ok (RunWork planned from e stop_after)
base-accepted stop_after planned base e from some b none =
    work-accepted stop_after planned e from (ap (λ n. amount_refusal planned.plan planned.orders n e) (base-floor planned.plan from base some b) ∙ none)
