-- The neighbours of a site by its place in a plane: they are sites of the other colour, at places beside it.
use Rattle.std.proofs.Common.{inl, inr, ◌≡◌, ℕ, ◌+◌, ◌-◌, ◌*◌, ◌/◌, ◌%◌, ◌<◌, ◌==◌, cond, true, false, refl, sym, ap, ◌∙◌, arith}
use Rattle.std.proofs.lemmas.Bool.{cases_lt, cases_eq}
use Rattle.std.proofs.lemmas.Nat.{mod-mul-add, mod_below, div_below, div-add-mod'}
use Rattle.std.proofs.Math.Nat.{mod-eq_of_lt, mod_self}
use Rattle.spin_model.specs.Lattice.{IsLawfulSize, site_at, next, previous, x_of, z_of, colour, forward, backward, half_plane, place_in_plane}
use Rattle.spin_model.proofs.CompactOrder.{from_compact-place_at, chosen-below}
use Rattle.spin_model.proofs.Colours.{colour-site_at}
use Rattle.spin_model.proofs.Sites.{x_of-site_at, y_of-site_at, z_of-site_at}
use Rattle.plane_sweep.specs.Beginnings.{site_of}
use Rattle.plane_sweep.specs.Neighbourhood.{right_place, left_place}

-- the side x of column k where the row begins at p
abbrev pub side : ℕ → ℕ → ℕ → ℕ → ℕ
side c z y k = 2 * k + (c + y + z) % 2

pub side-below : (l c z y k : ℕ) → IsLawfulSize l → k < l / 2 → side c z y k < l
side-below l c z y k lawful column = chosen-below l c y z k (omega arith) column

pub site_of-row : (l c z y k : ℕ) → z < l → y < l → k < l / 2 → site_of l c z (y * (l / 2) + k) ≡ site_at l (side c z y k) y z
site_of-row l c z y k plane row column = from_compact-place_at l c z y k plane row column

-- one step on and one step back turn the parity
next-parity : (l y : ℕ) → IsLawfulSize l → y < l → next l y % 2 ≡ (y + 1) % 2
next-parity l y lawful below = elim (cases_lt (y + 1) l) [
  | inl less ↦ ap (λ n. n % 2) (mod-eq_of_lt less)
  | inr not ↦
      let full : y + 1 ≡ l = omega arith in
      let around : next l y ≡ 0 = ap (λ n. n % l) full ∙ mod_self l in
      ap (λ n. n % 2) around ∙ omega arith
]

previous-parity : (l y : ℕ) → IsLawfulSize l → y < l → previous l y % 2 ≡ (y + 1) % 2
previous-parity l y lawful below = elim (cases_eq y 0) [
  | inl first ↦
      let last : y + l - 1 ≡ l - 1 = omega arith in
      let around : previous l y ≡ l - 1 = ap (λ n. n % l) last ∙ mod-eq_of_lt (omega arith) in
      ap (λ n. n % 2) around ∙ omega arith
  | inr other ↦
      let place : y + l - 1 ≡ 1 * l + (y - 1) = omega arith in
      let back : previous l y ≡ y - 1 = ap (λ n. n % l) place ∙ mod-mul-add 1 l (y - 1) (omega arith) in
      ap (λ n. n % 2) back ∙ omega arith
]

next-column : (l k p : ℕ) → IsLawfulSize l → k < l / 2 → p < 2 → next l (2 * k + p) ≡ 2 * cond (p == 0) k (next (l / 2) k) + (1 - p)
next-column l k p lawful column small = elim (cases_eq p 0) [
  | inl even ↦
      let tidy : 2 * k + 0 + 1 ≡ 2 * k + 1 = omega arith in
      let place : next l (2 * k + 0) ≡ 2 * k + 1 = ap (λ n. n % l) tidy ∙ mod-eq_of_lt (omega arith) in
      rw even place
  | inr other ↦
      let odd : p ≡ 1 = omega arith in
      let here : next l (2 * k + 1) ≡ 2 * next (l / 2) k + 0 = elim (cases_lt (k + 1) (l / 2)) [
        | inl less ↦
            let one : next l (2 * k + 1) ≡ 2 * k + 1 + 1 = mod-eq_of_lt (omega arith) in
            let two : next (l / 2) k ≡ k + 1 = mod-eq_of_lt less in
            omega arith
        | inr not ↦
            let full : 2 * k + 1 + 1 ≡ l = omega arith in
            let half : k + 1 ≡ l / 2 = omega arith in
            let one : next l (2 * k + 1) ≡ 0 = ap (λ n. n % l) full ∙ mod_self l in
            let two : next (l / 2) k ≡ 0 = ap (λ n. n % (l / 2)) half ∙ mod_self (l / 2) in
            omega arith
      ] in
      rw odd here
]

previous-column : (l k p : ℕ) → IsLawfulSize l → k < l / 2 → p < 2 → previous l (2 * k + p) ≡ 2 * cond (p == 0) (previous (l / 2) k) k + (1 - p)
previous-column l k p lawful column small = elim (cases_eq p 0) [
  | inl even ↦
      let here : previous l (2 * k + 0) ≡ 2 * previous (l / 2) k + 1 = elim (cases_eq k 0) [
        | inl first ↦
            let last : 2 * k + 0 + l - 1 ≡ l - 1 = omega arith in
            let last_half : k + l / 2 - 1 ≡ l / 2 - 1 = omega arith in
            let one : previous l (2 * k + 0) ≡ l - 1 = ap (λ n. n % l) last ∙ mod-eq_of_lt (omega arith) in
            let two : previous (l / 2) k ≡ l / 2 - 1 = ap (λ n. n % (l / 2)) last_half ∙ mod-eq_of_lt (omega arith) in
            omega arith
        | inr later ↦
            let place : 2 * k + 0 + l - 1 ≡ 1 * l + (2 * k - 1) = omega arith in
            let place_half : k + l / 2 - 1 ≡ 1 * (l / 2) + (k - 1) = omega arith in
            let one : previous l (2 * k + 0) ≡ 2 * k - 1 = ap (λ n. n % l) place ∙ mod-mul-add 1 l (2 * k - 1) (omega arith) in
            let two : previous (l / 2) k ≡ k - 1 = ap (λ n. n % (l / 2)) place_half ∙ mod-mul-add 1 (l / 2) (k - 1) (omega arith) in
            omega arith
      ] in
      rw even here
  | inr other ↦
      let odd : p ≡ 1 = omega arith in
      let place : 2 * k + 1 + l - 1 ≡ 1 * l + 2 * k = omega arith in
      let here : previous l (2 * k + 1) ≡ 2 * k + 0 = ap (λ n. n % l) place ∙ mod-mul-add 1 l (2 * k) (omega arith) ∙ omega arith in
      rw odd here
]

-- the parity of the other colour
other-parity : (c y z : ℕ) → c < 2 → (1 - c + y + z) % 2 ≡ 1 - (c + y + z) % 2
other-parity c y z chosen = omega arith

-- the neighbours of a site at its coordinates
forward-at : (l x y z d : ℕ) → x < l → y < l → z < l → d < 3
    → (d ≡ 0 → forward l (site_at l x y z) d ≡ site_at l (next l x) y z)
    × (d ≡ 1 → forward l (site_at l x y z) d ≡ site_at l x (next l y) z)
    × (d ≡ 2 → forward l (site_at l x y z) d ≡ site_at l x y (next l z))
unfolding forward
forward-at l x y z d side row plane direction =
    let a = x_of-site_at l x y z side in
    let b = y_of-site_at l x y z side row in
    let e = z_of-site_at l x y z side row in
    (λ same. rw (same, a, b, e) refl, λ same. rw (same, a, b, e) refl, λ same. rw (same, a, b, e) refl)

backward-at : (l x y z d : ℕ) → x < l → y < l → z < l → d < 3
    → (d ≡ 0 → backward l (site_at l x y z) d ≡ site_at l (previous l x) y z)
    × (d ≡ 1 → backward l (site_at l x y z) d ≡ site_at l x (previous l y) z)
    × (d ≡ 2 → backward l (site_at l x y z) d ≡ site_at l x y (previous l z))
unfolding backward
backward-at l x y z d side row plane direction =
    let a = x_of-site_at l x y z side in
    let b = y_of-site_at l x y z side row in
    let e = z_of-site_at l x y z side row in
    (λ same. rw (same, a, b, e) refl, λ same. rw (same, a, b, e) refl, λ same. rw (same, a, b, e) refl)

pub right-neighbour : (l c z y k : ℕ) → IsLawfulSize l → c < 2 → z < l → y < l → k < l / 2
    → forward l (site_of l c z (y * (l / 2) + k)) 0 ≡ site_of l (1 - c) z (right_place (l / 2) ((c + y + z) % 2) y k)
right-neighbour l c z y k lawful chosen plane row column =
    let p = (c + y + z) % 2 in
    let m = cond (p == 0) k (next (l / 2) k) in
    let m_below : m < l / 2 = elim (p == 0) as (λ t. cond t k (next (l / 2) k) < l / 2) [ true ↦ column | false ↦ mod_below (k + 1) (l / 2) (omega arith) ] in
    let step = next-column l k p lawful column (omega arith) in
    ap (λ i. forward l i 0) (site_of-row l c z y k plane row column)
    ∙ (forward-at l (side c z y k) y z 0 (side-below l c z y k lawful column) row plane (omega arith)).0 refl
    ∙ ap (λ x. site_at l x y z) (step ∙ ap (λ q. 2 * m + q) (sym (other-parity c y z chosen)))
    ∙ sym (site_of-row l (1 - c) z y m plane row m_below)

pub left-neighbour : (l c z y k : ℕ) → IsLawfulSize l → c < 2 → z < l → y < l → k < l / 2
    → backward l (site_of l c z (y * (l / 2) + k)) 0 ≡ site_of l (1 - c) z (left_place (l / 2) ((c + y + z) % 2) y k)
left-neighbour l c z y k lawful chosen plane row column =
    let p = (c + y + z) % 2 in
    let m = cond (p == 0) (previous (l / 2) k) k in
    let m_below : m < l / 2 = elim (p == 0) as (λ t. cond t (previous (l / 2) k) k < l / 2) [ true ↦ mod_below (k + l / 2 - 1) (l / 2) (omega arith) | false ↦ column ] in
    let step = previous-column l k p lawful column (omega arith) in
    ap (λ i. backward l i 0) (site_of-row l c z y k plane row column)
    ∙ (backward-at l (side c z y k) y z 0 (side-below l c z y k lawful column) row plane (omega arith)).0 refl
    ∙ ap (λ x. site_at l x y z) (step ∙ ap (λ q. 2 * m + q) (sym (other-parity c y z chosen)))
    ∙ sym (site_of-row l (1 - c) z y m plane row m_below)

-- the side of a neighbour in y or z is the site's own
side-turned : (c y z n k : ℕ) → c < 2 → n % 2 ≡ (y + 1) % 2 → side c z y k ≡ side (1 - c) z n k
side-turned c y z n k chosen turned = omega arith

side-turned-z : (c y z n k : ℕ) → c < 2 → n % 2 ≡ (z + 1) % 2 → side c z y k ≡ side (1 - c) n y k
side-turned-z c y z n k chosen turned = omega arith

pub up-neighbour : (l c z y k : ℕ) → IsLawfulSize l → c < 2 → z < l → y < l → k < l / 2
    → forward l (site_of l c z (y * (l / 2) + k)) 1 ≡ site_of l (1 - c) z (next l y * (l / 2) + k)
up-neighbour l c z y k lawful chosen plane row column =
    ap (λ i. forward l i 1) (site_of-row l c z y k plane row column)
    ∙ (forward-at l (side c z y k) y z 1 (side-below l c z y k lawful column) row plane (omega arith)).1 refl
    ∙ ap (λ x. site_at l x (next l y) z) (side-turned c y z (next l y) k chosen (next-parity l y lawful row))
    ∙ sym (site_of-row l (1 - c) z (next l y) k plane (mod_below (y + 1) l (omega arith)) column)

pub down-neighbour : (l c z y k : ℕ) → IsLawfulSize l → c < 2 → z < l → y < l → k < l / 2
    → backward l (site_of l c z (y * (l / 2) + k)) 1 ≡ site_of l (1 - c) z (previous l y * (l / 2) + k)
down-neighbour l c z y k lawful chosen plane row column =
    ap (λ i. backward l i 1) (site_of-row l c z y k plane row column)
    ∙ (backward-at l (side c z y k) y z 1 (side-below l c z y k lawful column) row plane (omega arith)).1 refl
    ∙ ap (λ x. site_at l x (previous l y) z) (side-turned c y z (previous l y) k chosen (previous-parity l y lawful row))
    ∙ sym (site_of-row l (1 - c) z (previous l y) k plane (mod_below (y + l - 1) l (omega arith)) column)

pub above-neighbour : (l c z y k : ℕ) → IsLawfulSize l → c < 2 → z < l → y < l → k < l / 2
    → forward l (site_of l c z (y * (l / 2) + k)) 2 ≡ site_of l (1 - c) (next l z) (y * (l / 2) + k)
above-neighbour l c z y k lawful chosen plane row column =
    ap (λ i. forward l i 2) (site_of-row l c z y k plane row column)
    ∙ (forward-at l (side c z y k) y z 2 (side-below l c z y k lawful column) row plane (omega arith)).2 refl
    ∙ ap (λ x. site_at l x y (next l z)) (side-turned-z c y z (next l z) k chosen (next-parity l z lawful plane))
    ∙ sym (site_of-row l (1 - c) (next l z) y k (mod_below (z + 1) l (omega arith)) row column)

pub below-neighbour : (l c z y k : ℕ) → IsLawfulSize l → c < 2 → z < l → y < l → k < l / 2
    → backward l (site_of l c z (y * (l / 2) + k)) 2 ≡ site_of l (1 - c) (previous l z) (y * (l / 2) + k)
below-neighbour l c z y k lawful chosen plane row column =
    ap (λ i. backward l i 2) (site_of-row l c z y k plane row column)
    ∙ (backward-at l (side c z y k) y z 2 (side-below l c z y k lawful column) row plane (omega arith)).2 refl
    ∙ ap (λ x. site_at l x y (previous l z)) (side-turned-z c y z (previous l z) k chosen (previous-parity l z lawful plane))
    ∙ sym (site_of-row l (1 - c) (previous l z) y k (mod_below (z + l - 1) l (omega arith)) row column)

-- the colour, the plane and the place of a site back from its place
pub record IsAt (l c z j i : ℕ) : Type 0 where
  pub of_colour : colour l i ≡ c
  pub plane : z_of l i ≡ z
  pub place : place_in_plane l i ≡ j

pub site_of-at : (l c z j : ℕ) → IsLawfulSize l → c < 2 → z < l → j < half_plane l → IsAt l c z j (site_of l c z j)
site_of-at l c z j lawful chosen plane within =
    let half = l / 2 in
    let y = j / half in
    let k = j % half in
    let row : y < l = div_below j half l (omega arith) within in
    let column : k < half = mod_below j half (omega arith) in
    let parts : y * half + k ≡ j = div-add-mod' j half in
    let x = side c z y k in
    let x_below = side-below l c z y k lawful column in
    let at : site_of l c z j ≡ site_at l x y z = ap (site_of l c z) (sym parts) ∙ site_of-row l c z y k plane row column in
    let x_is = x_of-site_at l x y z x_below in
    let y_is = y_of-site_at l x y z x_below row in
    record {
      of_colour = ap (colour l) at ∙ colour-site_at l x y z x_below row ∙ omega arith;
      plane = ap (z_of l) at ∙ z_of-site_at l x y z x_below row;
      place =
          let halved : x / 2 ≡ k = omega arith in
          ap (place_in_plane l) at ∙ ap (λ n. n * half + x_of l (site_at l x y z) / 2) y_is ∙ ap (λ n. y * half + n / 2) x_is ∙ ap (λ n. y * half + n) halved ∙ parts;
    }
