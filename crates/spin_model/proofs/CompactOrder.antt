-- The compact order is one to one: a place's colour, plane, row and column, and the site back from its place.
use Rattle.std.proofs.Common.{◌≡◌, ℕ, ◌+◌, ◌*◌, ◌/◌, ◌%◌, ◌<◌, ap, refl, sym, ◌∙◌, arith}
use Rattle.std.proofs.Math.Nat.{add-mul, mul_assoc, mul_comm}
use Rattle.std.proofs.lemmas.Nat.{mul-lt, mul-add-lt, div-mul-add, mod-mul-add, div-add-mod', mod_below, div_below}
use Rattle.spin_model.specs.Lattice.{IsLawfulSize, volume, site_at, x_of, y_of, z_of, colour, half_plane, half_volume, place_in_plane, compact, from_compact}
use Rattle.spin_model.proofs.Sites.{x_of-site_at, y_of-site_at, z_of-site_at, x_of-below, y_of-below, z_of-below, site_at-coordinates, site_at-below}

-- the place of colour c, plane z, row y and column k
abbrev place_at : ℕ → ℕ → ℕ → ℕ → ℕ → ℕ
place_at l c z y k = c * half_volume l + z * half_plane l + (y * (l / 2) + k)

-- by its plane among those of both colours
place_at-planes : (l c z y k : ℕ) → place_at l c z y k ≡ (c * l + z) * half_plane l + (y * (l / 2) + k)
place_at-planes l c z y k =
    let planes = add-mul (c * l) z (half_plane l) in
    let colours = mul_assoc c l (half_plane l) in
    omega arith

-- and by its row among all
place_at-rows : (l c z y k : ℕ) → place_at l c z y k ≡ ((c * l + z) * l + y) * (l / 2) + k
place_at-rows l c z y k =
    let by_planes = place_at-planes l c z y k in
    let rows = add-mul ((c * l + z) * l) y (l / 2) in
    let planes = mul_assoc (c * l + z) l (l / 2) in
    omega arith

-- what lies within a plane
pub in_plane : (l y k : ℕ) → y < l → k < l / 2 → y * (l / 2) + k < half_plane l
in_plane l y k row column =
    let bound = mul-add-lt y (l / 2) k l row column in
    let turned = mul_comm (l / 2) l in
    omega arith

-- a site's place lies in its plane
pub place_in_plane-below : (l i : ℕ) → IsLawfulSize l → place_in_plane l i < half_plane l
place_in_plane-below l i lawful =
    let row = y_of-below l i (omega arith) in
    let column : x_of l i / 2 < l / 2 = div_below (x_of l i) 2 (l / 2) (omega arith) (omega (arith, mod_below i l (omega arith))) in
    in_plane l (y_of l i) (x_of l i / 2) row column

-- and within the planes of a colour
in_colour : (l z y k : ℕ) → z < l → y < l → k < l / 2 → z * half_plane l + (y * (l / 2) + k) < half_volume l
in_colour l z y k plane row column =
    let bound = mul-add-lt z (half_plane l) (y * (l / 2) + k) l plane (in_plane l y k row column) in
    let turned = mul_comm (half_plane l) l in
    omega arith

-- and in the whole lattice, whose size is even
volume-halves : (l : ℕ) → IsLawfulSize l → volume l ≡ half_volume l * 2
volume-halves l lawful =
    let even : l ≡ l / 2 * 2 = omega arith in
    let cube = mul_assoc l l l in
    let plane : l * l ≡ half_plane l * 2 = ap (λ m. l * m) even ∙ sym (mul_assoc l (l / 2) 2) in
    let all = mul_assoc l (half_plane l) 2 in
    cube ∙ ap (λ m. l * m) plane ∙ sym all

-- the colour, the plane and the row of a place are within their ranges
pub place-colour-below : (l place : ℕ) → IsLawfulSize l → place < volume l → place / half_volume l < 2
place-colour-below l place lawful within =
    let halves = volume-halves l lawful in
    let turned = mul_comm (half_volume l) 2 in
    let plane : 0 < half_plane l = mul-lt 0 0 l (l / 2) (omega arith) (omega arith) in
    let positive : 0 < half_volume l = mul-lt 0 0 l (half_plane l) (omega arith) plane in
    div_below place (half_volume l) 2 positive (omega arith)

pub place-plane-below : (l place : ℕ) → IsLawfulSize l → place % half_volume l / half_plane l < l
place-plane-below l place lawful =
    let plane : 0 < half_plane l = mul-lt 0 0 l (l / 2) (omega arith) (omega arith) in
    let positive : 0 < half_volume l = mul-lt 0 0 l (half_plane l) (omega arith) plane in
    div_below (place % half_volume l) (half_plane l) l plane (mod_below place (half_volume l) positive)

pub place-row-below : (l place : ℕ) → IsLawfulSize l → place % half_plane l / (l / 2) < l
place-row-below l place lawful =
    let plane : 0 < half_plane l = mul-lt 0 0 l (l / 2) (omega arith) (omega arith) in
    div_below (place % half_plane l) (l / 2) l (omega arith) (mod_below place (half_plane l) plane)

pub place_at-below : (l c z y k : ℕ) → IsLawfulSize l → c < 2 → z < l → y < l → k < l / 2 → place_at l c z y k < volume l
place_at-below l c z y k lawful chosen plane row column =
    let halves = volume-halves l lawful in
    let bound = mul-add-lt c (half_volume l) (z * half_plane l + (y * (l / 2) + k)) 2 chosen (in_colour l z y k plane row column) in
    omega arith

colour_part : (l c z y k : ℕ) → z < l → y < l → k < l / 2 → place_at l c z y k / half_volume l ≡ c
colour_part l c z y k plane row column =
    let parts : place_at l c z y k ≡ c * half_volume l + (z * half_plane l + (y * (l / 2) + k)) = omega arith in
    ap (λ p. p / half_volume l) parts ∙ div-mul-add c (half_volume l) _ (in_colour l z y k plane row column)

plane_part : (l c z y k : ℕ) → z < l → y < l → k < l / 2 → place_at l c z y k % half_volume l / half_plane l ≡ z
plane_part l c z y k plane row column =
    let parts : place_at l c z y k ≡ c * half_volume l + (z * half_plane l + (y * (l / 2) + k)) = omega arith in
    ap (λ p. p % half_volume l / half_plane l) parts
    ∙ ap (λ p. p / half_plane l) (mod-mul-add c (half_volume l) _ (in_colour l z y k plane row column))
    ∙ div-mul-add z (half_plane l) _ (in_plane l y k row column)

row_part : (l c z y k : ℕ) → y < l → k < l / 2 → place_at l c z y k % half_plane l / (l / 2) ≡ y
row_part l c z y k row column =
    ap (λ p. p % half_plane l / (l / 2)) (place_at-planes l c z y k)
    ∙ ap (λ p. p / (l / 2)) (mod-mul-add (c * l + z) (half_plane l) _ (in_plane l y k row column))
    ∙ div-mul-add y (l / 2) k column

column_part : (l c z y k : ℕ) → k < l / 2 → place_at l c z y k % (l / 2) ≡ k
column_part l c z y k column = ap (λ p. p % (l / 2)) (place_at-rows l c z y k) ∙ mod-mul-add ((c * l + z) * l + y) (l / 2) k column

-- the site back from a place by its parts
pub from_compact-place_at : (l c z y k : ℕ) → z < l → y < l → k < l / 2 → from_compact l (place_at l c z y k) ≡ site_at l (2 * k + (c + y + z) % 2) y z
unfolding from_compact
from_compact-place_at l c z y k plane row column =
    let at_c = colour_part l c z y k plane row column in
    let at_z = plane_part l c z y k plane row column in
    let at_y = row_part l c z y k row column in
    let at_k = column_part l c z y k column in
    rw (at_c, at_z, at_y, at_k) refl

-- of the two sites of a column the chosen one has the colour, and lies within the lattice
chosen-colour : (c y z k : ℕ) → c < 2 → (2 * k + (c + y + z) % 2 + y + z) % 2 ≡ c
chosen-colour c y z k chosen = omega arith

chosen-column : (c y z k : ℕ) → (2 * k + (c + y + z) % 2) / 2 ≡ k
chosen-column c y z k = omega arith

pub chosen-below : (l c y z k : ℕ) → l % 2 ≡ 0 → k < l / 2 → 2 * k + (c + y + z) % 2 < l
chosen-below l c y z k even column = omega arith

-- a column and the colour give the coordinate x
chosen-same : (x y z : ℕ) → 2 * (x / 2) + ((x + y + z) % 2 + y + z) % 2 ≡ x
chosen-same x y z = omega arith

compact-site_at : (l x y z : ℕ) → x < l → y < l → compact l (site_at l x y z) ≡ place_at l ((x + y + z) % 2) z y (x / 2)
unfolding compact
compact-site_at l x y z x_within y_within =
    let at_x = x_of-site_at l x y z x_within in
    let at_y = y_of-site_at l x y z x_within y_within in
    let at_z = z_of-site_at l x y z x_within y_within in
    rw (at_x, at_y, at_z) refl

compact-place_at : (l i : ℕ) → compact l i ≡ place_at l (colour l i) (z_of l i) (y_of l i) (x_of l i / 2)
unfolding compact
compact-place_at l i = refl

-- compact places are the numbers below the volume
pub compact-below : (l i : ℕ) → IsLawfulSize l → i < volume l → compact l i < volume l
compact-below l i lawful within =
    let row = y_of-below l i (omega arith) in
    let plane = z_of-below l i (omega arith) within in
    let side = x_of-below l i (omega arith) in
    rw (compact-place_at l i) (place_at-below l (colour l i) (z_of l i) (y_of l i) (x_of l i / 2) lawful (omega arith) plane row (omega arith))

-- the site at a site's place is the site
pub from_compact-compact : (l i : ℕ) → IsLawfulSize l → i < volume l → from_compact l (compact l i) ≡ i
from_compact-compact l i lawful within =
    let row = y_of-below l i (omega arith) in
    let plane = z_of-below l i (omega arith) within in
    let side = x_of-below l i (omega arith) in
    let back = from_compact-place_at l (colour l i) (z_of l i) (y_of l i) (x_of l i / 2) plane row (omega arith) in
    ap (from_compact l) (compact-place_at l i) ∙ back
    ∙ ap (λ x. site_at l x (y_of l i) (z_of l i)) (chosen-same (x_of l i) (y_of l i) (z_of l i))
    ∙ site_at-coordinates l i (omega arith)

-- the colour, plane, row and column of a place
abbrev place_colour : ℕ → ℕ → ℕ
place_colour l place = place / (l / 2) / l / l

abbrev place_plane : ℕ → ℕ → ℕ
place_plane l place = place / (l / 2) / l % l

abbrev place_row : ℕ → ℕ → ℕ
place_row l place = place / (l / 2) % l

abbrev place_column : ℕ → ℕ → ℕ
place_column l place = place % (l / 2)

place_at-parts : (l place : ℕ) → place_at l (place_colour l place) (place_plane l place) (place_row l place) (place_column l place) ≡ place
place_at-parts l place =
    place_at-rows l (place_colour l place) (place_plane l place) (place_row l place) (place_column l place)
    ∙ ap (λ m. (m * l + place_row l place) * (l / 2) + place_column l place) (div-add-mod' (place / (l / 2) / l) l)
    ∙ ap (λ m. m * (l / 2) + place_column l place) (div-add-mod' (place / (l / 2)) l)
    ∙ div-add-mod' place (l / 2)

place_colour-below : (l place : ℕ) → IsLawfulSize l → place < volume l → place_colour l place < 2
place_colour-below l place lawful within =
    let even : l ≡ l / 2 * 2 = omega arith in
    let cube : volume l ≡ l * l * (l / 2 * 2) = ap (λ m. l * l * m) even in
    let halves = mul_assoc (l * l) (l / 2) 2 in
    let planes = mul_assoc 2 l l in
    let rows : 2 * l * l * (l / 2) ≡ 2 * (l * l * (l / 2)) = ap (λ m. m * (l / 2)) planes ∙ mul_assoc 2 (l * l) (l / 2) in
    let row = div_below place (l / 2) (2 * l * l) (omega arith) (omega arith) in
    let plane = div_below (place / (l / 2)) l (2 * l) (omega arith) row in
    div_below (place / (l / 2) / l) l 2 (omega arith) plane

-- the site at a place, by the place's parts
site-of_parts : (l place : ℕ) → IsLawfulSize l → from_compact l place
    ≡ site_at l (2 * place_column l place + (place_colour l place + place_row l place + place_plane l place) % 2) (place_row l place) (place_plane l place)
site-of_parts l place lawful =
    let row = mod_below (place / (l / 2)) l (omega arith) in
    let plane = mod_below (place / (l / 2) / l) l (omega arith) in
    let column = mod_below place (l / 2) (omega arith) in
    ap (from_compact l) (sym (place_at-parts l place))
    ∙ from_compact-place_at l (place_colour l place) (place_plane l place) (place_row l place) (place_column l place) plane row column

pub from_compact-below : (l place : ℕ) → IsLawfulSize l → from_compact l place < volume l
from_compact-below l place lawful =
    let row = mod_below (place / (l / 2)) l (omega arith) in
    let plane = mod_below (place / (l / 2) / l) l (omega arith) in
    let column = mod_below place (l / 2) (omega arith) in
    let side = chosen-below l (place_colour l place) (place_row l place) (place_plane l place) (place_column l place) (omega arith) column in
    rw (site-of_parts l place lawful) (site_at-below l _ _ _ side row plane)

-- the place of the site at a place is the place
pub compact-from_compact : (l place : ℕ) → IsLawfulSize l → place < volume l → compact l (from_compact l place) ≡ place
compact-from_compact l place lawful within =
    let c = place_colour l place in
    let z = place_plane l place in
    let y = place_row l place in
    let k = place_column l place in
    let row = mod_below (place / (l / 2)) l (omega arith) in
    let column = mod_below place (l / 2) (omega arith) in
    let side = chosen-below l c y z k (omega arith) column in
    ap (compact l) (site-of_parts l place lawful)
    ∙ compact-site_at l (2 * k + (c + y + z) % 2) y z side row
    ∙ ap (λ m. place_at l m z y ((2 * k + (c + y + z) % 2) / 2)) (chosen-colour c y z k (place_colour-below l place lawful within))
    ∙ ap (λ m. place_at l c z y m) (chosen-column c y z k)
    ∙ place_at-parts l place
