-- Values of the lattice of side 4 that were worked out by hand: of equal replicas, and of two that agree in one plane alone.
use Rattle.std.proofs.Common.{◌≡◌, Bool, true, List, [], ◌∷◌, ◌==◌, replicate, refl}
use Rattle.std.specs.Prelude.{pos, map}
use Rattle.spin_model.specs.Steps.{count_below, table}
use Rattle.spin_model.specs.Lattice.{forward, x_of}
use Rattle.overlap_lines.specs.Overlaps.{steps_on, agreeing_bonds, agreeing_line, link_sum, line_sum}

abbrev up : List Bool
up = replicate 64 true

-- up exactly where x = 0
abbrev one_plane : List Bool
one_plane = table (λ i. x_of 4 i == 0) 64

-- three steps on from x = 3 is x = 2, two steps on from z = 3 is z = 1
pub steps_around_the_boundary : (steps_on 4 3 0 3 ≡ 2) × (steps_on 4 48 2 2 ≡ 16)
unfolding steps_on forward
steps_around_the_boundary = (refl, refl)

-- all terms are +1
pub bonds_of_equal_replicas : link_sum 4 up up ≡ pos 192
unfolding forward count_below
bonds_of_equal_replicas = refl

pub lines_of_equal_replicas : map (line_sum 4 up up 2) (1 ∷ 2 ∷ []) ≡ pos 64 ∷ pos 64 ∷ []
unfolding steps_on forward count_below
lines_of_equal_replicas = refl

-- of the bonds in x the 32 at the plane have two ends that differ
pub bonds_of_one_flipped_plane : agreeing_bonds 4 up one_plane ≡ 160
unfolding forward count_below table
bonds_of_one_flipped_plane = refl

pub lines_of_one_flipped_plane : map (agreeing_line 4 up one_plane 0) (1 ∷ 2 ∷ []) ≡ 32 ∷ 32 ∷ []
unfolding steps_on forward count_below table
lines_of_one_flipped_plane = refl

pub lines_along_one_flipped_plane : (map (agreeing_line 4 up one_plane 1) (1 ∷ 2 ∷ []) ≡ 64 ∷ 64 ∷ []) × (map (agreeing_line 4 up one_plane 2) (1 ∷ 2 ∷ []) ≡ 64 ∷ 64 ∷ [])
unfolding steps_on forward count_below table
lines_along_one_flipped_plane = (refl, refl)
