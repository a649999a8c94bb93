use Rattle.std.proofs.Common.{ℕ, sym, arith}
use Rattle.std.specs.Prelude.{not, ◌==◌, slice_index}
use Rattle.spin_model.proofs.Tables.{count_below-zero, count_below-more}
use Rattle.glass_engine.proofs.summary.away_count.Goals as goal

pub samples-init : goal.samples-init
samples-init c = record { count = sym (count_below-zero _); few = omega arith }

pub samples-preserved : goal.samples-preserved
samples-preserved c =
    let test = λ (k : ℕ). not (slice_index c.args.labels.now k == c.args.slot) in
    let more = count_below-more test c.samples.b in
    let value = c.is_away-away.ensures.value in
    let so_far = c.samples.invariant.count in
    record {
      count = omega (arith, more, value, so_far);
      few = omega (arith, c.samples.invariant.few, c.is_away-away.ensures.few);
    }
