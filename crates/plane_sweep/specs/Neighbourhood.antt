-- The six neighbours of a site in a plane of one colour, as words of 64 samples: where they stand among the other colour's
-- planes, and the bonds to them.
use Rattle.std.specs.Prelude.{◌≡◌, ℕ, ◌+◌, ◌-◌, ◌*◌, ◌/◌, ◌%◌, ◌<◌, ◌==◌, if◌then◌else◌, bit_xor, List, [], ◌∷◌, length, slice_index}
use Rattle.spin_model.specs.Lattice.{half_plane, next, previous}
use Rattle.coupling_set.specs.CouplingWords.{CouplingsView, bond_word}
use Rattle.plane_sweep.specs.Packed.{plane_at}
use Rattle.plane_sweep.specs.Beginnings.{site_of}
use Rattle.plane_sweep.specs.declared.replica.Plane.{Plane}
use Rattle.plane_sweep.specs.declared.surroundings.Surroundings.{Surroundings}

-- the place of the neighbours in x of column k in row y: the row's sites of this colour begin at x = p, those of the other
-- colour at 1 - p
abbrev pub right_place : ℕ → ℕ → ℕ → ℕ → ℕ
right_place half p y k = y * half + (if p == 0 then k else next half k)

abbrev pub left_place : ℕ → ℕ → ℕ → ℕ → ℕ
left_place half p y k = y * half + (if p == 0 then previous half k else k)

-- J times the neighbours' spins, ahead in x, y, z and behind in x, y, z: bit b is set where that is +1 in sample b
unfoldable pub pulls : CouplingsView → List Plane → ℕ → ℕ → ℕ → ℕ → List ℕ
pulls couplings other c z y k =
    bit_xor (slice_index (plane_at other z).words right) (bond_word couplings (site_of l c z here) 0)
    ∷ bit_xor (slice_index (plane_at other z).words up) (bond_word couplings (site_of l c z here) 1)
    ∷ bit_xor (slice_index (plane_at other (next l z)).words here) (bond_word couplings (site_of l c z here) 2)
    ∷ bit_xor (slice_index (plane_at other z).words left) (bond_word couplings (site_of l (1 - c) z left) 0)
    ∷ bit_xor (slice_index (plane_at other z).words down) (bond_word couplings (site_of l (1 - c) z down) 1)
    ∷ bit_xor (slice_index (plane_at other (previous l z)).words here) (bond_word couplings (site_of l (1 - c) (previous l z) here) 2)
    ∷ []
  where
    l : ℕ
    l = couplings.size

    here : ℕ
    here = y * (l / 2) + k

    right : ℕ
    right = right_place (l / 2) ((c + y + z) % 2) y k

    left : ℕ
    left = left_place (l / 2) ((c + y + z) % 2) y k

    up : ℕ
    up = next l y * (l / 2) + k

    down : ℕ
    down = previous l y * (l / 2) + k

-- the words of the bonds in one direction from the sites of a plane
pub record IsLent (couplings : CouplingsView) (c z d : ℕ) (lent : List ℕ) : Type 0 where
  pub sized : length lent ≡ half_plane couplings.size
  pub words : (k : ℕ) → k < half_plane couplings.size → slice_index lent k ≡ bond_word couplings (site_of couplings.size c z k) d

-- the borrowed words are those of the planes and of the bonds
pub record Surrounds (couplings : CouplingsView) (other : List Plane) (c z : ℕ) (s : Surroundings) : Type 0 where
  pub here : s.here.now ≡ (plane_at other z).words
  pub above : s.above.now ≡ (plane_at other (next couplings.size z)).words
  pub below : s.below.now ≡ (plane_at other (previous couplings.size z)).words
  pub here_sized : length s.here.now ≡ half_plane couplings.size
  pub above_sized : length s.above.now ≡ half_plane couplings.size
  pub below_sized : length s.below.now ≡ half_plane couplings.size
  pub ahead_x : IsLent couplings c z 0 s.ahead_x.now
  pub ahead_y : IsLent couplings c z 1 s.ahead_y.now
  pub ahead_z : IsLent couplings c z 2 s.ahead_z.now
  pub here_x : IsLent couplings (1 - c) z 0 s.here_x.now
  pub here_y : IsLent couplings (1 - c) z 1 s.here_y.now
  pub below_z : IsLent couplings (1 - c) (previous couplings.size z) 2 s.below_z.now
