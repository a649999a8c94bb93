-- The checkerboard sweep of one replica of one disorder sample, one spin at a time.
use Rattle.std.specs.Prelude.{ℕ, ◌+◌, ◌*◌, Bool, ◌==◌, if◌then◌else◌, List, [], slice_index_or, slice_set}
use Rattle.spin_model.specs.Steps.{steps}
use Rattle.spin_model.specs.Stream.{advanced, draw}
use Rattle.spin_model.specs.Couplings.{Bonds}
use Rattle.spin_model.specs.Lattice.{volume, colour, z_of, place_in_plane, half_plane}
use Rattle.spin_model.specs.SiteRule.{Rule, new_spin}
use Rattle.scalar_rule.specs.Neighbours.{spin, aligned, satisfied}

-- what a sweep depends on: the side of the lattice, the spin rule with its thresholds, and the sample's couplings
pub record Dynamics : Type 0 where
  pub size : ℕ
  pub rule : Rule
  pub thresholds : List ℕ
  pub bonds : Bonds

-- the spins, and the generator words that they are swept by: list colour L + z serves that colour in plane z
pub record Configuration : Type 0 where
  pub spins : List Bool
  pub words : List (List ℕ)

-- the draw at site (x, y, z): number y L/2 + x div 2 of the words of its colour and plane
abbrev pub site_draw : ℕ → List (List ℕ) → ℕ → ℕ
site_draw l words i = draw (slice_index_or words (colour l i * l + z_of l i) []) (place_in_plane l i)

-- the spins once site i is updated by its draw, which it is where it has colour c
unfoldable pub visit : Dynamics → (ℕ → ℕ) → ℕ → ℕ → List Bool → List Bool
visit d draw_at c i spins = if colour d.size i == c then slice_set spins i updated else spins
  where
    updated : Bool
    updated = new_spin d.rule d.thresholds (aligned d.size d.bonds spins i) (satisfied d.size d.bonds spins i)
        (draw_at i) (spin spins i)

-- the words once those of colour c in plane z have given a number to each of the plane's sites of that colour
abbrev pub plane_drawn : ℕ → ℕ → ℕ → List (List ℕ) → List (List ℕ)
plane_drawn l c z words =
    slice_set words (c * l + z) (advanced (slice_index_or words (c * l + z) []) (half_plane l))

-- a half sweep of colour c: its sites in rising order, by the words as they stood before
abbrev pub half_sweep : Dynamics → ℕ → Configuration → Configuration
half_sweep d c s = record {
  spins = steps (visit d (site_draw d.size s.words) c) 0 (volume d.size) s.spins;
  words = steps (plane_drawn d.size c) 0 d.size s.words;
}

-- a sweep: colour 0, and then colour 1, which sees the new spins of colour 0
abbrev pub sweep : Dynamics → Configuration → Configuration
sweep d s = half_sweep d 1 (half_sweep d 0 s)

-- that many sweeps
abbrev pub sweeps : Dynamics → ℕ → Configuration → Configuration
sweeps d n s = steps (λ _ t. sweep d t) 0 n s
