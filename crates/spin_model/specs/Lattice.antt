-- The simple cubic lattice of side l with periodic boundaries (Edwards and Anderson, J. Phys. F 5, 965 (1975)): sites,
-- coordinates, neighbours, bonds, checkerboard colours, and the compact order of the sites colour by colour.
use Rattle.std.specs.Prelude.{Bool, ℕ, zero, suc, ◌≡◌, ◌+◌, ◌-◌, ◌*◌, ◌/◌, ◌%◌, ◌≤◌, ◌==◌, ◌&&◌, nat_le}

-- an even side from 4 to 64
abbrev pub IsLawfulSize : ℕ → Type 0
IsLawfulSize l = (4 ≤ l) × (l ≤ 64) × (l % 2 ≡ 0)

-- the same as a test
abbrev pub is_lawful_size : ℕ → Bool
is_lawful_size l = nat_le 4 l && nat_le l 64 && (l % 2 == 0)

-- the number of sites
abbrev pub volume : ℕ → ℕ
volume l = l * l * l

-- the site at (x, y, z): x runs fastest, then y, then z
abbrev pub site_at : ℕ → ℕ → ℕ → ℕ → ℕ
site_at l x y z = x + l * y + l * l * z

-- the coordinates of site i
abbrev pub x_of : ℕ → ℕ → ℕ
x_of l i = i % l

abbrev pub y_of : ℕ → ℕ → ℕ
y_of l i = i / l % l

abbrev pub z_of : ℕ → ℕ → ℕ
z_of l i = i / (l * l)

-- a coordinate one step on, and one step back, around the boundary
abbrev pub next : ℕ → ℕ → ℕ
next l x = (x + 1) % l

abbrev pub previous : ℕ → ℕ → ℕ
previous l x = (x + l - 1) % l

-- the neighbour of site i one step on in direction d: 0 is x, 1 is y, 2 is z
unfoldable pub forward : ℕ → ℕ → ℕ → ℕ
forward l i zero = site_at l (next l (x_of l i)) (y_of l i) (z_of l i)
forward l i (suc zero) = site_at l (x_of l i) (next l (y_of l i)) (z_of l i)
forward l i (suc (suc _)) = site_at l (x_of l i) (y_of l i) (next l (z_of l i))

-- the neighbour one step back
unfoldable pub backward : ℕ → ℕ → ℕ → ℕ
backward l i zero = site_at l (previous l (x_of l i)) (y_of l i) (z_of l i)
backward l i (suc zero) = site_at l (x_of l i) (previous l (y_of l i)) (z_of l i)
backward l i (suc (suc _)) = site_at l (x_of l i) (y_of l i) (previous l (z_of l i))

-- the bond from site i to its forward neighbour in direction d; there are three bonds a site
abbrev pub bond : ℕ → ℕ → ℕ
bond i d = 3 * i + d

abbrev pub bond_count : ℕ → ℕ
bond_count l = 3 * volume l

-- the checkerboard colour: 0 where x + y + z is even, 1 where it is odd
abbrev pub colour : ℕ → ℕ → ℕ
colour l i = (x_of l i + y_of l i + z_of l i) % 2

-- the sites of one colour in a plane of constant z, and in the whole lattice; l is even
abbrev pub half_plane : ℕ → ℕ
half_plane l = l * (l / 2)

abbrev pub half_volume : ℕ → ℕ
half_volume l = l * half_plane l

-- the place of a site among those of its colour in its plane: in order of y, then x
abbrev pub place_in_plane : ℕ → ℕ → ℕ
place_in_plane l i = y_of l i * (l / 2) + x_of l i / 2

-- the compact place of a site: in order of colour, z, y, x
unfoldable pub compact : ℕ → ℕ → ℕ
compact l i = colour l i * half_volume l + z_of l i * half_plane l + place_in_plane l i

-- the site at a compact place; of the two sites with this x div 2 the one that has the colour
unfoldable pub from_compact : ℕ → ℕ → ℕ
from_compact l place = site_at l x y z
  where
    c : ℕ
    c = place / half_volume l

    z : ℕ
    z = place % half_volume l / half_plane l

    y : ℕ
    y = place % half_plane l / (l / 2)

    x : ℕ
    x = 2 * (place % (l / 2)) + (c + y + z) % 2
