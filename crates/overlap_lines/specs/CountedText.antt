-- The same text as it is written from the counts of all samples.
use Rattle.std.specs.Prelude.{◌≡◌, ℕ, ℤ, ◌+◌, ◌*◌, ◌/◌, ◌<◌, ◌≤◌, pos, ◌-ℤ◌, List, [], ◌++◌, codes, flat_map, length, slice_index_or}
use Rattle.spin_model.specs.Steps.{table}
use Rattle.spin_model.specs.Lattice.{bond_count, volume}
use Rattle.multispin_word.specs.Planes.{number}
use Rattle.scalar_rule.specs.Plan.{Plan, slots_of}
use Rattle.plane_sweep.specs.Packed.{spins_of}
use Rattle.plane_sweep.specs.declared.replica.Duo.{Duo}
use Rattle.overlap_lines.specs.LineText.{header_line, line_line, link_line}
use Rattle.overlap_lines.specs.Overlaps.{agreeing_bonds, agreeing_line}

-- the counts of a slot in all samples: of the bonds, and behind them of the lines, 32 for each direction
pub record AreCounts (l : ℕ) (duo : Duo) (counts : List (List ℕ)) : Type 0 where
  pub bonds : (b : ℕ) → b < 64
      → number (slice_index_or counts 0 []) b ≡ agreeing_bonds l (spins_of l b duo.first.planes) (spins_of l b duo.second.planes)
  pub lines : (d r b : ℕ) → d < 3 → 1 ≤ r → r ≤ l / 2 → b < 64
      → number (slice_index_or counts (32 * d + r) []) b ≡ agreeing_line l (spins_of l b duo.first.planes) (spins_of l b duo.second.planes) d r

-- those of all slots of a state
abbrev pub HaveCounts : ℕ → List Duo → List (List (List ℕ)) → Type 0
HaveCounts l duos counts = (t : ℕ) (duo : Duo) → t < length duos → AreCounts l (slice_index_or duos t duo) (slice_index_or counts t [])

-- the sum of so many terms of which a sample's count are +1 and the others -1
abbrev pub sum_at : List (List ℕ) → ℕ → ℕ → ℕ → ℤ
sum_at counts m b terms = pos (2 * number (slice_index_or counts m []) b) -ℤ pos terms

abbrev pub counted_direction : ℕ → ℕ → ℕ → List (List ℕ) → ℕ → List ℕ
counted_direction l b t counts d = flat_map (λ k. line_line b t d (k + 1) (sum_at counts (32 * d + (k + 1)) b (volume l))) (table (λ k. k) (l / 2))

abbrev pub counted_slot : ℕ → ℕ → ℕ → List (List ℕ) → List ℕ
counted_slot l b t counts = link_line b t (sum_at counts 0 b (bond_count l)) ++ flat_map (counted_direction l b t counts) (table (λ d. d) 3)

abbrev pub counted_sample : Plan → List (List (List ℕ)) → ℕ → List ℕ
counted_sample plan counts b = flat_map (λ t. counted_slot plan.size b t (slice_index_or counts t [])) (table (λ t. t) (slots_of plan))

abbrev pub counted_samples : Plan → List (List (List ℕ)) → ℕ → List ℕ
counted_samples plan counts samples = flat_map (counted_sample plan counts) (table (λ b. b) samples)

unfoldable pub counted_text : Plan → List (List (List ℕ)) → ℕ → ℕ → List ℕ
counted_text plan counts samples epoch = header_line plan samples epoch ++ counted_samples plan counts samples ++ codes "end\n"
