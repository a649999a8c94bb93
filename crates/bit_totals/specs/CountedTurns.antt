-- What a sweep that counts as it goes does to the tally of a replica.
use Rattle.std.specs.Prelude.{◌≡◌, ℕ, ◌+◌, ◌*◌, ◌^◌, ◌<◌, List, take, drop}
use Rattle.coupling_set.specs.CouplingWords.{CouplingsView, bonds_of}
use Rattle.plane_sweep.specs.Packed.{plane_at, spins_of}
use Rattle.plane_sweep.specs.PlaneSweep.{SweepsColours}
use Rattle.plane_sweep.specs.declared.replica.Plane.{Plane}
use Rattle.spin_model.specs.Lattice.{half_plane}
use Rattle.threshold_table.specs.declared.rule_table.SlotRule.{SlotRule}
use Rattle.bit_totals.specs.Counted.{unsatisfied_from}
use Rattle.bit_totals.specs.RowBonds.{plane_count}
use Rattle.bit_totals.specs.Tallies.{tallied}

-- a tally has room for the bonds of the sites of a colour in one more plane
abbrev pub HasRoom : ℕ → List (List ℕ) → Type 0
HasRoom l rows = (b : ℕ) → b < 64 → tallied rows b + 6 * half_plane l < 2 ^ 20

-- a tally after plane z of colour c is swept, to which the unsatisfied bonds of its sites are added if c is 1
pub record CountsTurn (couplings : CouplingsView) (c z : ℕ) (planes : List Plane) (old new : List (List ℕ)) : Type 0 where
  pub ahead : c ≡ 0 → (b : ℕ) → b < 64 → tallied new b ≡ tallied old b
  pub behind : c ≡ 1 → (b : ℕ) → b < 64 → tallied new b ≡ tallied old b
      + plane_count couplings (take couplings.size planes) 1 z (plane_at (drop couplings.size planes) z).words b (half_plane couplings.size)

-- all planes after a sweep, and the unsatisfied bonds of all sites of colour 1 then
pub record SweepsAndCounts (couplings : CouplingsView) (rule : SlotRule) (old new : List Plane) (rows : List (List ℕ)) : Type 0 where
  pub swept : SweepsColours couplings rule old new
  pub counted : (b : ℕ) → b < 64 → tallied rows b
      ≡ unsatisfied_from couplings.size (bonds_of couplings b) (spins_of couplings.size b new) 1 (couplings.size * half_plane couplings.size)
