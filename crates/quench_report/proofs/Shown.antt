-- The lines of the numbers that are held are those of the states.
use Rattle.std.proofs.Common.{◌≡◌, ℕ, ◌+◌, ◌/◌, ◌%◌, ◌<◌, ◌++◌, refl, ap, arith}
use Rattle.std.specs.Prelude.{codes, slice_index_or, ℤ, []}
use Rattle.std.specs.Fmt.{signed_decimal}
use Rattle.spin_model.proofs.Joined.{joined-same}
use Rattle.measured_sums.specs.OverlapField.{Field, distance_correlation}
use Rattle.measured_sums.specs.MeasuredSums.{Observed}
use Rattle.plane_sums.specs.Correlations.{signed_at}
use Rattle.quenched_states.specs.QuenchText.{pair_line, state_line}
use Rattle.quenched_sums.specs.Told.{TellsPair, TellsState}
use Rattle.quenched_sums.specs.declared.pair.PairSums.{PairSums}
use Rattle.quenched_sums.specs.declared.state.StateSums.{StateSums}
use Rattle.quench_report.specs.Numbers.{pair_numbers, state_numbers}
use Rattle.quench_report.specs.declared.lines.LinePlace.{LinePlace}

pub state-shown : (l : ℕ) (at : LinePlace) (sums : StateSums) (seen : ℕ → Observed) → TellsState l sums seen
    → state_numbers l at sums ≡ state_line l at.time at.sample at.slot (seen (at.sample % 64))
unfolding state_numbers state_line
state-shown l at sums seen told =
    let b = at.sample % 64 in
    let below : b < 64 = omega arith in
    let values = joined-same (λ k. codes "," ++ signed_decimal (signed_at (slice_index_or sums.distances k []) b))
    (λ k. codes "," ++ signed_decimal (distance_correlation l (seen b).field (k + 1))) (λ k. k) (l / 2)
    (λ k near. ap (λ (z : ℤ). codes "," ++ signed_decimal z) (told.distances k b near below)) in
    rw (told.first b below, told.second b below, told.overlaps b below, values) refl

pub pair-shown : (l waited : ℕ) (at : LinePlace) (sums : PairSums) (field : ℕ → ℕ → Field) → TellsPair l sums field
    → pair_numbers waited at sums ≡ pair_line l waited at.time at.sample at.slot (field (at.sample % 64))
unfolding pair_numbers pair_line
pair-shown l waited at sums field told =
    let b = at.sample % 64 in
    let below : b < 64 = omega arith in
    rw (told.first_overlaps b below, told.second_overlaps b below, told.first_links b below, told.second_links b below) refl
