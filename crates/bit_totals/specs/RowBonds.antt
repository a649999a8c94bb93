-- The unsatisfied bonds of the sites of one colour, from the words of a plane and those around it.
use Rattle.std.specs.Prelude.{◌≡◌, ℕ, ◌+◌, ◌*◌, ◌/◌, ◌%◌, List, length, slice_index, count_by}
use Rattle.coupling_set.specs.CouplingWords.{CouplingsView}
use Rattle.local_rule.specs.SiteBits.{lane_words, site_bits}
use Rattle.multispin_word.specs.Planes.{differs, is_set}
use Rattle.spin_model.specs.Lattice.{half_plane, next}
use Rattle.scalar_rule.specs.Positions.{sum_below}
use Rattle.plane_sweep.specs.Neighbourhood.{pulls}
use Rattle.plane_sweep.specs.Packed.{plane_at}
use Rattle.plane_sweep.specs.PlaneSweep.{pulls_lent}
use Rattle.plane_sweep.specs.declared.replica.Plane.{Plane}
use Rattle.plane_sweep.specs.declared.rows.Row.{Row}
use Rattle.plane_sweep.specs.declared.surroundings.Surroundings.{Surroundings}
use Rattle.bit_totals.specs.Tallies.{set_lanes}
use Rattle.bit_totals.specs.declared.bonds.BondCounts.{BondCounts}

-- how many of a site's six bonds are unsatisfied in sample b: those where J times the neighbour's spin differs from the
-- site's
abbrev pub against_count : List ℕ → ℕ → ℕ → ℕ
against_count six word b = count_by (λ bit. differs bit (is_set word b)) (site_bits six b)

-- those of four sites, of which lane i has the six words and the site's word
abbrev pub four_count : List (List ℕ) → List ℕ → ℕ → ℕ
four_count six words b = lane 0 + lane 1 + lane 2 + lane 3
  where
    lane : ℕ → ℕ
    lane i = against_count (lane_words six i) (slice_index words i) b

-- those of the first n sites of a row
unfoldable pub row_count : List ℕ → Surroundings → Row → ℕ → ℕ → ℕ
row_count own s row b n = sum_below (λ k. against_count (pulls_lent s row k) (slice_index own (row.here + k)) b) n

-- and of two rows
abbrev pub pair_count : List ℕ → Surroundings → Row → Row → ℕ → ℕ → ℕ
pair_count own s first second b n = row_count own s first b n + row_count own s second b n

-- those of the first n sites of plane z of colour c, by the planes of the other colour
unfoldable pub plane_count : CouplingsView → List Plane → ℕ → ℕ → List ℕ → ℕ → ℕ → ℕ
plane_count couplings other c z own b n =
    sum_below (λ j. against_count (pulls couplings other c z (j / (couplings.size / 2)) (j % (couplings.size / 2))) (slice_index own j) b) n

-- and those of the first n planes of colour c
unfoldable pub planes_count : CouplingsView → List Plane → ℕ → List Plane → ℕ → ℕ → ℕ
planes_count couplings other c own b n =
    sum_below (λ z. plane_count couplings other c z (plane_at own z).words b (half_plane couplings.size)) n

-- and those of n planes of colour 1 from plane 1 on, of which plane 0 is the last
unfoldable pub behind_count : CouplingsView → List Plane → List Plane → ℕ → ℕ → ℕ
behind_count couplings other own b n =
    sum_below (λ k. plane_count couplings other 1 (next couplings.size k) (plane_at own (next couplings.size k)).words b (half_plane couplings.size)) n

-- what the words of a count add up to in sample b
abbrev pub counted_lanes : BondCounts → ℕ → ℕ
counted_lanes counts b = set_lanes counts.ones b + set_lanes counts.more_ones b + 2 * (set_lanes counts.twos b + set_lanes counts.more_twos b)

-- each of its words has four lanes
pub record HasLanes (counts : BondCounts) : Type 0 where
  pub ones : length counts.ones ≡ 4
  pub more_ones : length counts.more_ones ≡ 4
  pub twos : length counts.twos ≡ 4
  pub more_twos : length counts.more_twos ≡ 4
