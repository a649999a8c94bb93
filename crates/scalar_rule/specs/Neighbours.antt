-- The six neighbours of a site in one disorder sample, and the counts that the spin rule needs. The spins are a list in
-- the order of the sites, true for +1; the couplings tell of each bond whether J is -1.
use Rattle.std.specs.Prelude.{ℕ, Bool, true, false, not, List, [], ◌∷◌, slice_index_or, count_by}
use Rattle.spin_model.specs.Couplings.{Bonds}
use Rattle.spin_model.specs.Lattice.{forward, backward, bond}

-- the spin at site i
abbrev pub spin : List Bool → ℕ → Bool
spin spins i = slice_index_or spins i false

-- J times a spin: the other spin where J is -1
abbrev pub coupled : Bool → Bool → Bool
coupled true s = not s
coupled false s = s

-- two spins are equal: their product is +1
abbrev pub agree : Bool → Bool → Bool
agree true s = s
agree false s = not s

-- a neighbour, and the bond that joins it
pub record Neighbour : Type 0 where
  pub site : ℕ
  pub bond : ℕ

-- the neighbour one step on in direction d
abbrev pub ahead : ℕ → ℕ → ℕ → Neighbour
ahead l i d = record { site = forward l i d; bond = bond i d }

-- the neighbour one step back in direction d, whose bond is its own forward bond
abbrev pub behind : ℕ → ℕ → ℕ → Neighbour
behind l i d = record { site = backward l i d; bond = bond (backward l i d) d }

-- the six neighbours: three ahead, three behind
abbrev pub neighbours : ℕ → ℕ → List Neighbour
neighbours l i = ahead l i 0 ∷ ahead l i 1 ∷ ahead l i 2 ∷ behind l i 0 ∷ behind l i 1 ∷ behind l i 2 ∷ []

-- J s' of a neighbour's spin s'
abbrev pub pull : Bonds → List Bool → Neighbour → Bool
pull bonds spins n = coupled (bonds n.bond) (spin spins n.site)

-- how many of the six neighbours have J s' = +1
unfoldable pub aligned : ℕ → Bonds → List Bool → ℕ → ℕ
aligned l bonds spins i = count_by (pull bonds spins) (neighbours l i)

-- how many of the six bonds have J s s' = +1, with s the spin at the site
unfoldable pub satisfied : ℕ → Bonds → List Bool → ℕ → ℕ
satisfied l bonds spins i = count_by (λ n. agree (pull bonds spins n) (spin spins i)) (neighbours l i)
