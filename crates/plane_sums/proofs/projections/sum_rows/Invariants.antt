-- The rows of the pairs so far are counted.
use Rattle.std.proofs.Common.{◌≡◌, ℕ, ◌*◌, ◌<◌}
use Rattle.multispin_word.specs.Planes.{is_set}
use Rattle.spin_model.specs.Steps.{count_below}
use Rattle.plane_sums.specs.Counts.{count_at}
use Rattle.plane_sums.specs.Lines.{word_in}
use Rattle.plane_sums.proofs.projections.sum_rows.Given as goal

abbrev pub invariant-pairs : goal.invariant-pairs
invariant-pairs l = (k b : ℕ) → k < l.size → b < 64 → count_at l.total.planes k b ≡ count_below (λ j. is_set (word_in l.rows j k) b) (2 * l.pair)
