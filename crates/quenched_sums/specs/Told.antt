-- When numbers of 64 samples are those that the text of a quench has.
use Rattle.std.specs.Prelude.{◌≡◌, ℕ, ◌+◌, ◌/◌, ◌<◌, [], slice_index_or}
use Rattle.measured_sums.specs.MeasuredSums.{Observed}
use Rattle.measured_sums.specs.OverlapField.{Field, total_overlap, link_overlap, distance_correlation}
use Rattle.plane_sums.specs.Correlations.{signed_at}
use Rattle.quenched_sums.specs.declared.state.StateSums.{StateSums}
use Rattle.quenched_sums.specs.declared.pair.PairSums.{PairSums}

-- of a slot of a state, where `observed b` is what is seen of it in sample b: at place k the distance is k + 1
pub record TellsState (l : ℕ) (sums : StateSums) (observed : ℕ → Observed) : Type 0 where
  pub first : (b : ℕ) → b < 64 → signed_at sums.first_energies b ≡ (observed b).first_energy
  pub second : (b : ℕ) → b < 64 → signed_at sums.second_energies b ≡ (observed b).second_energy
  pub overlaps : (b : ℕ) → b < 64 → signed_at sums.overlaps b ≡ total_overlap l (observed b).field
  pub distances : (k b : ℕ) → k < l / 2 → b < 64 → signed_at (slice_index_or sums.distances k []) b ≡ distance_correlation l (observed b).field (k + 1)

-- of a slot at two times, where `field b a` is the field of copy a in sample b
pub record TellsPair (l : ℕ) (sums : PairSums) (field : ℕ → ℕ → Field) : Type 0 where
  pub first_overlaps : (b : ℕ) → b < 64 → signed_at sums.first_overlaps b ≡ total_overlap l (field b 0)
  pub second_overlaps : (b : ℕ) → b < 64 → signed_at sums.second_overlaps b ≡ total_overlap l (field b 1)
  pub first_links : (b : ℕ) → b < 64 → signed_at sums.first_links b ≡ link_overlap l (field b 0)
  pub second_links : (b : ℕ) → b < 64 → signed_at sums.second_links b ≡ link_overlap l (field b 1)
