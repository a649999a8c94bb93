-- The lines of a quench by the numbers that are held.
use Rattle.std.specs.Prelude.{ℕ, ◌/◌, ◌%◌, List, [], ◌++◌, codes, decimal, flat_map, slice_index_or}
use Rattle.std.specs.Fmt.{signed_decimal}
use Rattle.spin_model.specs.Steps.{table}
use Rattle.plane_sums.specs.Correlations.{signed_at}
use Rattle.quenched_sums.specs.declared.pair.PairSums.{PairSums}
use Rattle.quenched_sums.specs.declared.state.StateSums.{StateSums}
use Rattle.quench_report.specs.declared.lines.LinePlace.{LinePlace}

-- of a state
unfoldable pub state_numbers : ℕ → LinePlace → StateSums → List ℕ
state_numbers l at sums =
    codes "state," ++ decimal at.time ++ codes "," ++ decimal at.sample ++ codes "," ++ decimal at.slot
    ++ codes "," ++ signed_decimal (signed_at sums.first_energies (at.sample % 64))
    ++ codes "," ++ signed_decimal (signed_at sums.second_energies (at.sample % 64))
    ++ codes "," ++ signed_decimal (signed_at sums.overlaps (at.sample % 64))
    ++ flat_map (λ k. codes "," ++ signed_decimal (signed_at (slice_index_or sums.distances k []) (at.sample % 64))) (table (λ k. k) (l / 2))
    ++ codes "\n"

-- of it and an earlier state
unfoldable pub pair_numbers : ℕ → LinePlace → PairSums → List ℕ
pair_numbers waited at sums =
    codes "pair," ++ decimal waited ++ codes "," ++ decimal at.time ++ codes "," ++ decimal at.sample ++ codes "," ++ decimal at.slot
    ++ codes "," ++ signed_decimal (signed_at sums.first_overlaps (at.sample % 64))
    ++ codes "," ++ signed_decimal (signed_at sums.second_overlaps (at.sample % 64))
    ++ codes "," ++ signed_decimal (signed_at sums.first_links (at.sample % 64))
    ++ codes "," ++ signed_decimal (signed_at sums.second_links (at.sample % 64)) ++ codes "\n"
