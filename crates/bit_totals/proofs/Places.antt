-- The sites of a plane in compact order, and their words.
use Rattle.std.proofs.Common.{◌≡◌, ℕ, ◌+◌, ◌*◌, ◌/◌, ◌%◌, ◌<◌, List, get_or, ap, refl, sym, ◌∙◌, arith}
use Rattle.std.proofs.Math.Nat.{add-mul, mul_assoc, mul_comm}
use Rattle.std.proofs.lemmas.Nat.{div-add-mod', mod_below, div_below}
use Rattle.spin_model.specs.Lattice.{IsLawfulSize, volume, site_at, colour, half_plane, half_volume, from_compact}
use Rattle.spin_model.proofs.Sites.{x_of-site_at, y_of-site_at, z_of-site_at}
use Rattle.spin_model.proofs.Colours.{colour-site_at}
use Rattle.spin_model.proofs.CompactOrder.{from_compact-place_at, from_compact-below}
use Rattle.plane_sweep.specs.Packed.{plane_at, word_at}
use Rattle.plane_sweep.specs.declared.replica.Plane.{Plane}

-- planes colour by colour are planes one after the other
pub plane-place : (l q : ℕ) → q / l * half_volume l + q % l * half_plane l ≡ q * half_plane l
plane-place l q =
    let colours = mul_assoc (q / l) l (half_plane l) in
    let both = add-mul (q / l * l) (q % l) (half_plane l) in
    let whole = ap (λ n. n * half_plane l) (div-add-mod' q l) in
    omega arith

-- the coordinates of the site at place j of plane q
abbrev pub row_at : ℕ → ℕ → ℕ
row_at l j = j / (l / 2)

abbrev pub column_at : ℕ → ℕ → ℕ → ℕ
column_at l q j = 2 * (j % (l / 2)) + (q / l + j / (l / 2) + q % l) % 2

pub record Within (l q j : ℕ) : Type 0 where
  pub lawful : IsLawfulSize l
  pub plane : q < 2 * l
  pub place : j < half_plane l

pub record Bounds (l q j : ℕ) : Type 0 where
  pub colour : q / l < 2
  pub z : q % l < l
  pub y : row_at l j < l
  pub k : j % (l / 2) < l / 2
  pub x : column_at l q j < l
  pub even : l % 2 ≡ 0

pub bounds : (l q j : ℕ) → Within l q j → Bounds l q j
bounds l q j w =
    let even = w.lawful.2 in
    let least = w.lawful.0 in
    let turned = mul_comm 2 l in
    let k : j % (l / 2) < l / 2 = mod_below j (l / 2) (omega arith) in
    let place = w.place in
    let plane = w.plane in
    record {
      colour = div_below q l 2 (omega arith) (omega arith);
      z = mod_below q l (omega arith);
      y = div_below j (l / 2) l (omega arith) place;
      k = k;
      x = omega arith;
      even = even;
    }

pub site-is : (l q j : ℕ) → Within l q j → from_compact l (q * half_plane l + j) ≡ site_at l (column_at l q j) (row_at l j) (q % l)
site-is l q j w =
    let b = bounds l q j w in
    let planes = plane-place l q in
    let row = div-add-mod' j (l / 2) in
    let place : q * half_plane l + j ≡ q / l * half_volume l + q % l * half_plane l + (row_at l j * (l / 2) + j % (l / 2)) = omega arith in
    ap (from_compact l) place ∙ from_compact-place_at l (q / l) (q % l) (row_at l j) (j % (l / 2)) b.z b.y b.k

pub site-below : (l q j : ℕ) → Within l q j → from_compact l (q * half_plane l + j) < volume l
site-below l q j w = from_compact-below l (q * half_plane l + j) w.lawful

-- the colour of that site is its plane's
pub site-colour : (l q j : ℕ) → Within l q j → colour l (site_at l (column_at l q j) (row_at l j) (q % l)) ≡ q / l
site-colour l q j w =
    let b = bounds l q j w in
    let within = b.colour in
    colour-site_at l (column_at l q j) (row_at l j) (q % l) b.x b.y ∙ omega arith

-- the word of a site by its colour and coordinates
pub word-at : (l : ℕ) (planes : List Plane) (c x y z : ℕ) → x < l → y < l → colour l (site_at l x y z) ≡ c
    → word_at l planes (site_at l x y z) ≡ get_or (plane_at planes (c * l + z)).words (y * (l / 2) + x / 2) 0
word-at l planes c x y z x_within y_within coloured =
    let at_x = x_of-site_at l x y z x_within in
    let at_y = y_of-site_at l x y z x_within y_within in
    let at_z = z_of-site_at l x y z x_within y_within in
    rw (coloured, at_x, at_y, at_z) refl

-- word j of plane q is that of the site at its place
pub own-word : (l q j : ℕ) (planes : List Plane) → Within l q j → get_or (plane_at planes q).words j 0 ≡ word_at l planes (from_compact l (q * half_plane l + j))
own-word l q j planes w =
    let b = bounds l q j w in
    let x = column_at l q j in
    let y = row_at l j in
    let word = word-at l planes (q / l) x y (q % l) b.x b.y (site-colour l q j w) in
    let column : x / 2 ≡ j % (l / 2) = omega arith in
    let place : y * (l / 2) + x / 2 ≡ j = ap (λ k. y * (l / 2) + k) column ∙ div-add-mod' j (l / 2) in
    let read = rw (div-add-mod' q l, place) at word in
    sym (ap (word_at l planes) (site-is l q j w) ∙ read)
