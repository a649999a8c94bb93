-- Families of parallel planes that cut the lattice, each plane with as many sites as a face of it: across the three axes, and
-- across the six diagonals of its faces.
use Rattle.std.specs.Prelude.{ℕ, ◌+◌, ◌-◌, ◌%◌, ℤ, pos, ◌==◌, if◌then◌else◌, List, [], ◌∷◌}
use Rattle.spin_model.specs.SignedSums.{sum_of}
use Rattle.spin_model.specs.Lattice.{volume, x_of, y_of, z_of}
use Rattle.measured_sums.specs.OverlapField.{Field}

pub data Family : Type 0 where
  AlongX : Family
  AlongY : Family
  AlongZ : Family
  SumXY : Family
  DifferenceXY : Family
  SumXZ : Family
  DifferenceXZ : Family
  SumYZ : Family
  DifferenceYZ : Family

abbrev pub axes : List Family
axes = AlongX ∷ AlongY ∷ AlongZ ∷ []

abbrev pub face_diagonals : List Family
face_diagonals = SumXY ∷ DifferenceXY ∷ SumXZ ∷ DifferenceXZ ∷ SumYZ ∷ DifferenceYZ ∷ []

-- the plane of a family, 0 to l - 1, on which the site at (x, y, z) lies: a coordinate, or a sum or a difference of two of them
-- around the boundary
abbrev pub plane_at : ℕ → Family → ℕ → ℕ → ℕ → ℕ
plane_at l AlongX x y z = x
plane_at l AlongY x y z = y
plane_at l AlongZ x y z = z
plane_at l SumXY x y z = (x + y) % l
plane_at l DifferenceXY x y z = (x + l - y) % l
plane_at l SumXZ x y z = (x + z) % l
plane_at l DifferenceXZ x y z = (x + l - z) % l
plane_at l SumYZ x y z = (y + z) % l
plane_at l DifferenceYZ x y z = (y + l - z) % l

-- the same of site i
abbrev pub plane_of : ℕ → Family → ℕ → ℕ
plane_of l family i = plane_at l family (x_of l i) (y_of l i) (z_of l i)

-- P: the sum of q over the sites of plane m
abbrev pub plane_sum : ℕ → Field → Family → ℕ → ℤ
plane_sum l q family m = sum_of (λ i. if plane_of l family i == m then q i else pos 0) (volume l)
