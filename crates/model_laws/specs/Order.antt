-- The sites of a half sweep: their order makes no difference, and each goes by a draw of its own.
use Rattle.std.specs.Prelude.{◌≡◌, ℕ, ◌+◌, ◌*◌, ◌<◌, Bool, ◌==◌, if◌then◌else◌, List, [], ◌∷◌, length, count_by}
use Rattle.spin_model.specs.Lattice.{IsLawfulSize, volume, colour, z_of, place_in_plane}
use Rattle.spin_model.specs.SiteRule.{new_spin}
use Rattle.spin_model.specs.Steps.{steps}
use Rattle.scalar_rule.specs.Neighbours.{spin, aligned, satisfied}
use Rattle.scalar_rule.specs.Sweep.{Dynamics, visit}

-- the spins after a half sweep of colour c in rising order, with draw `draw_at i` at site i
abbrev pub half_swept : Dynamics → (ℕ → ℕ) → ℕ → List Bool → List Bool
half_swept d draw_at c spins = steps (visit d draw_at c) 0 (volume d.size) spins

-- the spins once the sites of a list are visited, its first one first
unfoldable pub swept_in_order : Dynamics → (ℕ → ℕ) → ℕ → List ℕ → List Bool → List Bool
swept_in_order d draw_at c [] spins = spins
swept_in_order d draw_at c (i ∷ sites) spins = swept_in_order d draw_at c sites (visit d draw_at c i spins)

-- a list names each site of the colour once; others it may name or not
abbrev pub NamesEachOnce : ℕ → ℕ → List ℕ → Type 0
NamesEachOnce l c sites = (i : ℕ) → i < volume l → colour l i ≡ c → count_by (λ j. j == i) sites ≡ 1

-- ---- the laws

-- a half sweep in any such order is that in rising order
abbrev pub OrderMakesNoDifference : Type 0
OrderMakesNoDifference = (d : Dynamics) (draw_at : ℕ → ℕ) (c : ℕ) (sites : List ℕ) (spins : List Bool) → IsLawfulSize d.size
    → length spins ≡ volume d.size → NamesEachOnce d.size c sites → swept_in_order d draw_at c sites spins ≡ half_swept d draw_at c spins

-- it is all its sites at once: each site of the colour by the rule, from the spins before, and every other as it was
abbrev pub SitesGoAtOnce : Type 0
SitesGoAtOnce = (d : Dynamics) (draw_at : ℕ → ℕ) (c : ℕ) (spins : List Bool) (i : ℕ) → IsLawfulSize d.size → length spins ≡ volume d.size → i < volume d.size
    → spin (half_swept d draw_at c spins) i
    ≡ (if colour d.size i == c then
    new_spin d.rule d.thresholds (aligned d.size d.bonds spins i) (satisfied d.size d.bonds spins i) (draw_at i) (spin spins i) else spin spins i)

-- so a spin depends on no draw of the half sweep but its own
abbrev pub DrawsActOnTheirSites : Type 0
DrawsActOnTheirSites = (d : Dynamics) (f g : ℕ → ℕ) (c : ℕ) (spins : List Bool) (i : ℕ) → IsLawfulSize d.size → length spins ≡ volume d.size → i < volume d.size
    → f i ≡ g i → spin (half_swept d f c spins) i ≡ spin (half_swept d g c spins) i

-- and no two sites go by the same number of the same generator: list colour L + z, number y L/2 + x div 2
abbrev pub DrawsAreTheirOwn : Type 0
DrawsAreTheirOwn = (l i j : ℕ) → IsLawfulSize l → i < volume l → j < volume l
    → colour l i * l + z_of l i ≡ colour l j * l + z_of l j → place_in_plane l i ≡ place_in_plane l j → i ≡ j
