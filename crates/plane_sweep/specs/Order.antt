-- The order in which a sweep goes over the planes of both colours, and what a turn of it does.
use Rattle.std.specs.Prelude.{◌≡◌, ℕ, ◌+◌, ◌*◌, ◌%◌, ◌<◌, ◌≤◌, List, take, drop, length, All}
use Rattle.coupling_set.specs.CouplingWords.{CouplingsView}
use Rattle.plane_sweep.specs.Packed.{FitsPlane}
use Rattle.plane_sweep.specs.PlaneSweep.{SweepsAt}
use Rattle.plane_sweep.specs.declared.order.Turn.{Turn}
use Rattle.plane_sweep.specs.declared.replica.Plane.{Plane}
use Rattle.threshold_table.specs.declared.rule_table.SlotRule.{SlotRule}

-- the turn behind another on a lattice of side l: planes 0, 1 and 2 of colour 0, and then by turns the plane before of
-- colour 1 and the next of colour 0; at the end the last plane of colour 1 and its plane 0
pub record IsTurnAfter (l : ℕ) (turn after : Turn) : Type 0 where
  pub begun : turn.colour ≡ 0 → turn.z < 2 → (after.colour ≡ 0) × (after.z ≡ turn.z + 1)
  pub follows : turn.colour ≡ 0 → 2 ≤ turn.z → (after.colour ≡ 1) × (after.z + 1 ≡ turn.z)
  pub goes_on : turn.colour ≡ 1 → turn.z + 2 < l → (after.colour ≡ 0) × (after.z ≡ turn.z + 2)
  pub ends : turn.colour ≡ 1 → l ≤ turn.z + 2 → (after.colour ≡ 1) × (after.z ≡ (turn.z + 1) % l)

-- the planes of both colours are as many as those of a lattice of side l, and fit
pub record FitsColours (l : ℕ) (planes : List Plane) : Type 0 where
  pub count : length planes ≡ 2 * l
  pub fit : All (FitsPlane l) planes

-- the planes of both colours after plane z of colour 0 is swept
pub record SweepsAhead (couplings : CouplingsView) (rule : SlotRule) (z : ℕ) (old new : List Plane) : Type 0 where
  pub swept : SweepsAt couplings (drop couplings.size old) rule 0 z (take couplings.size old) (take couplings.size new)
  pub kept : drop couplings.size new ≡ drop couplings.size old

-- and after plane z of colour 1 is
pub record SweepsBehind (couplings : CouplingsView) (rule : SlotRule) (z : ℕ) (old new : List Plane) : Type 0 where
  pub swept : SweepsAt couplings (take couplings.size old) rule 1 z (drop couplings.size old) (drop couplings.size new)
  pub kept : take couplings.size new ≡ take couplings.size old

-- and after plane z of either colour is
pub record SweepsTurn (couplings : CouplingsView) (rule : SlotRule) (c z : ℕ) (old new : List Plane) : Type 0 where
  pub ahead : c ≡ 0 → SweepsAhead couplings rule z old new
  pub behind : c ≡ 1 → SweepsBehind couplings rule z old new
  pub fits : FitsColours couplings.size new
