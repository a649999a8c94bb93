-- One distance more.
use Rattle.std.proofs.Common.{ℕ, ◌++◌, List, ap, sym, ◌∙◌, append_assoc, append-nil, arith}
use Rattle.std.specs.Prelude.{codes, [], flat_map, slice_index_or}
use Rattle.spin_model.specs.Steps.{table}
use Rattle.std.specs.Fmt.{signed_decimal}
use Rattle.plane_sums.specs.Correlations.{signed_at}
use Rattle.spin_model.proofs.Joined.{joined-zero, joined-more}
use Rattle.quench_report.proofs.lines.fill_distances.Goals as goal

pub distances-init : goal.distances-init
distances-init c = record {
  text = sym (ap (λ (xs : List ℕ). c.args.line.now ++ xs) (joined-zero (λ k. codes "," ++ signed_decimal (signed_at (slice_index_or c.args.sums.now k []) c.args.b)) (λ k. k)) ∙ append-nil c.args.line.now);
  short = omega arith;
}

pub distances-preserved : goal.distances-preserved
distances-preserved c =
    let line = c.distances.invariant in
    let k = c.distances.k in
    let item : ℕ → List ℕ = λ k. codes "," ++ signed_decimal (signed_at (slice_index_or c.args.sums.now k []) c.args.b) in
    record {
      text = c.add_number.ensures.value
          ∙ ap (λ (xs : List ℕ). xs ++ item k) line.text
          ∙ append_assoc c.args.line.now (flat_map item (table (λ n. n) k)) (item k)
          ∙ ap (λ (xs : List ℕ). c.args.line.now ++ xs) (sym (joined-more item (λ n. n) k));
      short = omega (arith, c.add_number.ensures.short, line.short);
    }
