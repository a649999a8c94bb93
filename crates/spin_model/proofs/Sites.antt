-- Sites and their coordinates on the periodic cube.
use Rattle.std.proofs.Common.{◌≡◌, ℕ, ◌+◌, ◌*◌, ◌/◌, ◌%◌, ◌<◌, ◌≤◌, ap, sym, ◌∙◌, arith}
use Rattle.std.proofs.lemmas.Nat.{mul-le, mul-lt, mul-add-lt, div-mul-add, mod-mul-add, div-add-mod', mod_below, div_below}
use Rattle.std.proofs.Math.Nat.{add-mul, mul_assoc, mul_comm, div-div-eq-div-mul}
use Rattle.spin_model.specs.Lattice.{volume, site_at, x_of, y_of, z_of, IsLawfulSize}

-- a site by its row: row l z + y, place x
site_at-rows : (l x y z : ℕ) → site_at l x y z ≡ (z * l + y) * l + x
site_at-rows l x y z =
    let rows = add-mul (z * l) y l in
    let plane : l * l * z ≡ z * l * l = mul_comm (l * l) z ∙ sym (mul_assoc z l l) in
    let row = mul_comm l y in
    omega arith

-- and by its plane
pub site_at-planes : (l x y z : ℕ) → site_at l x y z ≡ z * (l * l) + (y * l + x)
site_at-planes l x y z =
    let plane = mul_comm (l * l) z in
    let row = mul_comm l y in
    omega arith

pub x_of-site_at : (l x y z : ℕ) → x < l → x_of l (site_at l x y z) ≡ x
x_of-site_at l x y z h = ap (λ i. i % l) (site_at-rows l x y z) ∙ mod-mul-add (z * l + y) l x h

pub y_of-site_at : (l x y z : ℕ) → x < l → y < l → y_of l (site_at l x y z) ≡ y
y_of-site_at l x y z h k =
    ap (λ i. i / l % l) (site_at-rows l x y z) ∙ ap (λ r. r % l) (div-mul-add (z * l + y) l x h) ∙ mod-mul-add z l y k

pub z_of-site_at : (l x y z : ℕ) → x < l → y < l → z_of l (site_at l x y z) ≡ z
z_of-site_at l x y z h k =
    ap (λ i. i / (l * l)) (site_at-planes l x y z) ∙ div-mul-add z (l * l) (y * l + x) (mul-add-lt y l x l k h)

pub x_of-below : (l i : ℕ) → 0 < l → x_of l i < l
x_of-below l i positive = mod_below i l positive

pub y_of-below : (l i : ℕ) → 0 < l → y_of l i < l
y_of-below l i positive = mod_below (i / l) l positive

pub z_of-below : (l i : ℕ) → 0 < l → i < volume l → z_of l i < l
z_of-below l i positive within =
    let plane : 0 < l * l = mul-lt 0 0 l l positive positive in
    let cube : volume l ≡ l * (l * l) = mul_assoc l l l in
    div_below i (l * l) l plane (omega arith)

-- a site is the one at its coordinates
pub site_at-coordinates : (l i : ℕ) → 0 < l → site_at l (x_of l i) (y_of l i) (z_of l i) ≡ i
site_at-coordinates l i positive =
    let rows = site_at-rows l (x_of l i) (y_of l i) (z_of l i) in
    let plane : i / l / l ≡ i / (l * l) = div-div-eq-div-mul i l l in
    let column = div-add-mod' (i / l) l in
    let place = div-add-mod' i l in
    rows ∙ ap (λ r. r * l + i % l) (ap (λ z. z * l + i / l % l) (sym plane) ∙ column) ∙ place

-- the site at three coordinates lies in the lattice
pub site_at-below : (l x y z : ℕ) → x < l → y < l → z < l → site_at l x y z < volume l
site_at-below l x y z x_within y_within z_within =
    let column = mul-add-lt y l x l y_within x_within in
    let bound = mul-add-lt z (l * l) (y * l + x) l z_within column in
    let planes = site_at-planes l x y z in
    omega arith

-- the greatest lattice has 64 ^ 3 sites
pub volume-bound : (l : ℕ) → IsLawfulSize l → volume l ≤ 262144
volume-bound l lawful = mul-le (l * l) l 4096 64 (mul-le l l 64 64 (omega arith) (omega arith)) (omega arith)
