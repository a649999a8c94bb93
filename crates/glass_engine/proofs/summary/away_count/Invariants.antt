use Rattle.std.proofs.Common.{◌≡◌, ◌≤◌}
use Rattle.std.specs.Prelude.{not, ◌==◌, slice_index}
use Rattle.spin_model.specs.Steps.{count_below}
use Rattle.glass_engine.proofs.summary.away_count.Given as goal

abbrev pub invariant-samples : goal.invariant-samples
invariant-samples l = record {
  count : l.away ≡ count_below (λ b. not (slice_index l.labels b == l.slot)) l.b;
  few : l.away ≤ l.b;
}
