use Rattle.std.proofs.Common.{◌≡◌, ◌≤◌, map}
use Rattle.spin_model.specs.Steps.{count_below}
use Rattle.plane_sweep.specs.Uneven.{position_of}
use Rattle.scalar_rule.specs.Positions.{done, position_in, is_pending}
use Rattle.run_checkpoint.specs.UnevenDecoding.{places_in}
use Rattle.run_checkpoint.proofs.uneven_checks.pending_count.Given as goal

abbrev pub invariant-cells : goal.invariant-cells
invariant-cells l = record {
  counted : l.count ≡ count_below (is_pending (λ t. done (position_in (map position_of (places_in l.slots l.bytes)) t)) l.floor l.samples l.every l.slots) l.cell;
  few : l.count ≤ l.cell;
}
