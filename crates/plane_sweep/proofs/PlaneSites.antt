-- The sites of a plane: each site of the lattice is at one place of one plane.
use Rattle.std.proofs.Common.{◌≡◌, ℕ, ◌+◌, ◌*◌, ◌/◌, ◌%◌, ◌<◌, ap, sym, ◌∙◌, arith}
use Rattle.std.proofs.lemmas.Nat.{mul-add-lt, div-mul-add, mod-mul-add, div-add-mod', mod_below, div_below}
use Rattle.std.proofs.Math.Nat.{mul_comm}
use Rattle.spin_model.specs.Lattice.{IsLawfulSize, volume, z_of, colour, place_in_plane, half_plane, half_volume, compact, from_compact}
use Rattle.spin_model.proofs.CompactOrder.{from_compact-compact, from_compact-place_at, from_compact-below, chosen-below}
use Rattle.spin_model.proofs.Sites.{site_at-planes, z_of-below}
use Rattle.plane_sweep.specs.Beginnings.{site_of}

pub site_of-below : (l c z k : ℕ) → IsLawfulSize l → site_of l c z k < volume l
site_of-below l c z k lawful = from_compact-below l (c * half_volume l + z * half_plane l + k) lawful

-- a site's plane among those of both colours
pub plane-below : (l i : ℕ) → IsLawfulSize l → i < volume l → colour l i * l + z_of l i < 2 * l
plane-below l i lawful within =
    let z = z_of-below l i (omega arith) within in
    let bound = mul-add-lt (colour l i) l (z_of l i) 2 (omega arith) z in
    let turned = mul_comm l 2 in
    omega arith

pub plane-colour : (l c z : ℕ) → z < l → (c * l + z) / l ≡ c
plane-colour l c z below = div-mul-add c l z below

pub plane-z : (l c z : ℕ) → z < l → (c * l + z) % l ≡ z
plane-z l c z below = mod-mul-add c l z below

-- the site at a site's place is the site
pub site_of-place : (l i : ℕ) → IsLawfulSize l → i < volume l → site_of l (colour l i) (z_of l i) (place_in_plane l i) ≡ i
unfolding compact
site_of-place l i lawful within = from_compact-compact l i lawful within

-- the site at place k of a plane, among all sites of both colours there
pub site_of-plane : (l c z k : ℕ) → IsLawfulSize l → z < l → k < half_plane l → l * l * z + site_of l c z k % (l * l) ≡ site_of l c z k
site_of-plane l c z k lawful plane within =
    let row : k / (l / 2) < l = div_below k (l / 2) l (omega arith) within in
    let column : k % (l / 2) < l / 2 = mod_below k (l / 2) (omega arith) in
    let parts = div-add-mod' k (l / 2) in
    let x = 2 * (k % (l / 2)) + (c + k / (l / 2) + z) % 2 in
    let y = k / (l / 2) in
    let x_within : x < l = chosen-below l c y z (k % (l / 2)) (omega arith) column in
    let back = from_compact-place_at l c z y (k % (l / 2)) plane row column in
    let place : c * half_volume l + z * half_plane l + (y * (l / 2) + k % (l / 2)) ≡ c * half_volume l + z * half_plane l + k = omega arith in
    let site : site_of l c z k ≡ z * (l * l) + (y * l + x) = ap (from_compact l) (sym place) ∙ back ∙ site_at-planes l x y z in
    let below = mul-add-lt y l x l row x_within in
    let rest : site_of l c z k % (l * l) ≡ y * l + x = ap (λ n. n % (l * l)) site ∙ mod-mul-add z (l * l) (y * l + x) below in
    let turned = mul_comm z (l * l) in
    omega arith
