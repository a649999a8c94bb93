-- The neighbours of a site and their places, by the site's coordinates.
use Rattle.std.proofs.Common.{◌≡◌, ℕ, ◌+◌, ◌-◌, ◌*◌, ◌/◌, ◌%◌, ◌<◌, ◌≤◌, List, get_or, refl, sym, ap, ◌∙◌, arith}
use Rattle.std.proofs.Math.Nat.{mod-eq_of_lt}
use Rattle.std.proofs.lemmas.Nat.{mod-mul-add}
use Rattle.coupling_set.specs.CouplingWords.{CouplingsView, bond_word}
use Rattle.potts_glass.specs.Potts.{neighbour}
use Rattle.potts_glass.specs.SitesBeside.{HoldsPlane}
use Rattle.potts_glass.proofs.Sites.{each-of_six}
use Rattle.spin_model.specs.Lattice.{IsLawfulSize, volume, site_at, z_of, next, previous, backward, colour as class, place_in_plane, half_plane, half_volume, compact, from_compact}
use Rattle.spin_model.proofs.Colours.{colour-site_at, colour-backward, next-below, previous-below}
use Rattle.spin_model.proofs.CompactOrder.{from_compact-compact}
use Rattle.spin_model.proofs.Neighbours.{forward-x, forward-y, forward-z, backward-x, backward-y, backward-z}
use Rattle.spin_model.proofs.Sites.{x_of-site_at, y_of-site_at, z_of-site_at, site_at-below}

-- a site by the first one of its row
pub row-site : (l x y z n : ℕ) → n ≡ site_at l 0 y z → n + x ≡ site_at l x y z
row-site l x y z n e = omega (arith, e)

-- a coordinate one step on, and one step back, within the row
pub next-inside : (l x : ℕ) → x + 1 < l → next l x ≡ x + 1
next-inside l x less = mod-eq_of_lt less

pub previous-inside : (l x : ℕ) → 0 < x → x ≤ l → previous l x ≡ x - 1
previous-inside l x some below =
    let place : x + l - 1 ≡ 1 * l + (x - 1) = omega arith in
    ap (λ m. m % l) place ∙ mod-mul-add 1 l (x - 1) (omega arith)

-- its place among those of its class in its plane
pub place-site_at : (l x y z : ℕ) → x < l → y < l → place_in_plane l (site_at l x y z) ≡ y * (l / 2) + x / 2
place-site_at l x y z h k = rw (x_of-site_at l x y z h, y_of-site_at l x y z h k) refl

-- a site is the one at its place
pub site-by_place : (l j : ℕ) → IsLawfulSize l → j < volume l → from_compact l (class l j * half_volume l + z_of l j * half_plane l + place_in_plane l j) ≡ j
unfolding compact
site-by_place l j lawful within = from_compact-compact l j lawful within

-- where a site stands: in this class and plane, at this place
pub record StandsAt (l j c z n : ℕ) : Type 0 where
  pub within : j < volume l
  pub of_class : class l j ≡ c
  pub in_plane : z_of l j ≡ z
  pub at_place : place_in_plane l j ≡ n

-- a site by its coordinates
pub stands : (l c x y z : ℕ) → x < l → y < l → z < l → (x + y + z) % 2 ≡ c → StandsAt l (site_at l x y z) c z (y * (l / 2) + x / 2)
stands l c x y z h k m parity = record {
  within = site_at-below l x y z h k m;
  of_class = colour-site_at l x y z h k ∙ parity;
  in_plane = z_of-site_at l x y z h k;
  at_place = place-site_at l x y z h k;
}

-- the class a step back is the other one
class-behind : (l c x y z d : ℕ) → IsLawfulSize l → x < l → y < l → z < l → (x + y + z) % 2 ≡ c → class l (backward l (site_at l x y z) d) ≡ 1 - c
class-behind l c x y z d lawful h k m parity =
    let here = (stands l c x y z h k m parity).of_class in
    let both = colour-backward l (site_at l x y z) d lawful (site_at-below l x y z h k m) in
    omega arith

-- the neighbours a step back
pub stands-behind_x : (l c x y z : ℕ) → IsLawfulSize l → x < l → y < l → z < l → (x + y + z) % 2 ≡ c → StandsAt l (backward l (site_at l x y z) 0) (1 - c) z (y * (l / 2) + previous l x / 2)
stands-behind_x l c x y z lawful h k m parity =
    let step = backward-x l x y z h k in
    let back = previous-below l x h in
    record {
      within = rw step (site_at-below l (previous l x) y z back k m);
      of_class = class-behind l c x y z 0 lawful h k m parity;
      in_plane = ap (z_of l) step ∙ z_of-site_at l (previous l x) y z back k;
      at_place = ap (place_in_plane l) step ∙ place-site_at l (previous l x) y z back k;
    }

pub stands-behind_y : (l c x y z : ℕ) → IsLawfulSize l → x < l → y < l → z < l → (x + y + z) % 2 ≡ c → StandsAt l (backward l (site_at l x y z) 1) (1 - c) z (previous l y * (l / 2) + x / 2)
stands-behind_y l c x y z lawful h k m parity =
    let step = backward-y l x y z h k in
    let back = previous-below l y k in
    record {
      within = rw step (site_at-below l x (previous l y) z h back m);
      of_class = class-behind l c x y z 1 lawful h k m parity;
      in_plane = ap (z_of l) step ∙ z_of-site_at l x (previous l y) z h back;
      at_place = ap (place_in_plane l) step ∙ place-site_at l x (previous l y) z h back;
    }

pub stands-behind_z : (l c x y z : ℕ) → IsLawfulSize l → x < l → y < l → z < l → (x + y + z) % 2 ≡ c → StandsAt l (backward l (site_at l x y z) 2) (1 - c) (previous l z) (y * (l / 2) + x / 2)
stands-behind_z l c x y z lawful h k m parity =
    let step = backward-z l x y z h k in
    let back = previous-below l z m in
    record {
      within = rw step (site_at-below l x y (previous l z) h k back);
      of_class = class-behind l c x y z 2 lawful h k m parity;
      in_plane = ap (z_of l) step ∙ z_of-site_at l x y (previous l z) h k;
      at_place = ap (place_in_plane l) step ∙ place-site_at l x y (previous l z) h k;
    }

-- the word at the place of a site is that of its bond
pub held : (couplings : CouplingsView) (c z d j n m : ℕ) (words : List ℕ) → HoldsPlane couplings c z d words → StandsAt couplings.size j c z n → m ≡ n → get_or words m 0 ≡ bond_word couplings j d
held couplings c z d j n m words holds at e =
    ap (λ k. get_or words k 0) (e ∙ sym at.at_place) ∙ holds.words_at j at.within at.of_class at.in_plane

-- a neighbour is a site
pub neighbour-below : (l x y z k : ℕ) → x < l → y < l → z < l → k < 6 → neighbour l (site_at l x y z) k < volume l
neighbour-below l x y z k p q r six = each-of_six (λ m. neighbour l (site_at l x y z) m < volume l)
    (rw (forward-x l x y z p q) (site_at-below l (next l x) y z (next-below l x p) q r))
    (rw (forward-y l x y z p q) (site_at-below l x (next l y) z p (next-below l y q) r))
    (rw (forward-z l x y z p q) (site_at-below l x y (next l z) p q (next-below l z r)))
    (rw (backward-x l x y z p q) (site_at-below l (previous l x) y z (previous-below l x p) q r))
    (rw (backward-y l x y z p q) (site_at-below l x (previous l y) z p (previous-below l y q) r))
    (rw (backward-z l x y z p q) (site_at-below l x y (previous l z) p q (previous-below l z r)))
    k six
