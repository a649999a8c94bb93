-- The distances so far are added.
use Rattle.std.proofs.Common.{◌≡◌, ◌+◌, ◌*◌, ◌≤◌, [], ◌++◌, length, codes, flat_map, get_or}
use Rattle.std.specs.Fmt.{signed_decimal}
use Rattle.plane_sums.specs.Correlations.{signed_at}
use Rattle.spin_model.specs.Steps.{table}
use Rattle.quench_report.proofs.lines.fill_distances.Given as goal

abbrev pub invariant-distances : goal.invariant-distances
invariant-distances l = record {
  text : l.line ≡ l.fn.line ++ flat_map (λ k. codes "," ++ signed_decimal (signed_at (get_or l.sums k []) l.b)) (table (λ k. k) l.k);
  short : length l.line ≤ length l.fn.line + 21 * l.k;
}
