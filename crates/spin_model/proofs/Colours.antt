-- A step along an axis of the periodic cube changes the colour of a site.
use Rattle.std.proofs.Common.{inl, inr, ◌≡◌, ◌≢◌, ℕ, zero, suc, ◌+◌, ◌-◌, ◌%◌, ◌<◌, ap, refl, ◌∙◌, arith, mod-eq_of_lt}
use native.Mathlib.Nat.{mod-eq-sub-mod}
use Rattle.std.proofs.lemmas.Nat.{mod_below}
use Rattle.std.proofs.lemmas.Bool.{cases_lt}
use Rattle.spin_model.specs.Lattice.{volume, site_at, x_of, y_of, z_of, next, previous, forward, backward, colour, IsLawfulSize}
use Rattle.spin_model.proofs.Sites.{x_of-site_at, y_of-site_at, z_of-site_at, x_of-below, y_of-below, z_of-below}

-- the colour of a site is the parity of its coordinates
pub colour-site_at : (l x y z : ℕ) → x < l → y < l → colour l (site_at l x y z) ≡ (x + y + z) % 2
colour-site_at l x y z x_within y_within =
    let at_x = x_of-site_at l x y z x_within in
    let at_y = y_of-site_at l x y z x_within y_within in
    let at_z = z_of-site_at l x y z x_within y_within in
    rw (at_x, at_y, at_z) refl

pub next-below : (l c : ℕ) → c < l → next l c < l
next-below l c within = mod_below (c + 1) l (omega arith)

pub previous-below : (l c : ℕ) → c < l → previous l c < l
previous-below l c within = mod_below (c + l - 1) l (omega arith)

-- around an edge of even length a step forward changes the parity
next-parity : (l c : ℕ) → l % 2 ≡ 0 → c < l → (next l c + c) % 2 ≡ 1
next-parity l c even within = elim (cases_lt (c + 1) l) [
  | inl inner ↦ let same : next l c ≡ c + 1 = mod-eq_of_lt inner in omega arith
  | inr edge ↦
      let same : next l c ≡ 0 = mod-eq-sub-mod edge ∙ ap (λ k. k % l) (omega arith) ∙ mod-eq_of_lt (omega arith) in
      omega arith
]

-- and so does a step back
previous-parity : (l c : ℕ) → l % 2 ≡ 0 → c < l → (previous l c + c) % 2 ≡ 1
previous-parity l c even within = elim (cases_lt (c + l - 1) l) [
  | inl edge ↦ let same : previous l c ≡ c + l - 1 = mod-eq_of_lt edge in omega arith
  | inr inner ↦
      let same : previous l c ≡ c + l - 1 - l = mod-eq-sub-mod inner ∙ mod-eq_of_lt (omega arith) in
      omega arith
]

-- the neighbour one step forward has the other colour
pub colour-forward : (l i d : ℕ) → IsLawfulSize l → i < volume l → colour l (forward l i d) + colour l i ≡ 1
unfolding forward
colour-forward l i zero lawful within =
    let even = lawful.2 in
    let x = x_of-below l i (omega arith) in
    let y = y_of-below l i (omega arith) in
    let parity = next-parity l (x_of l i) even x in
    rw (colour-site_at l (next l (x_of l i)) (y_of l i) (z_of l i) (next-below l (x_of l i) x) y) (omega arith)
colour-forward l i (suc zero) lawful within =
    let even = lawful.2 in
    let x = x_of-below l i (omega arith) in
    let y = y_of-below l i (omega arith) in
    let parity = next-parity l (y_of l i) even y in
    rw (colour-site_at l (x_of l i) (next l (y_of l i)) (z_of l i) x (next-below l (y_of l i) y)) (omega arith)
colour-forward l i (suc (suc d)) lawful within =
    let even = lawful.2 in
    let x = x_of-below l i (omega arith) in
    let y = y_of-below l i (omega arith) in
    let parity = next-parity l (z_of l i) even (z_of-below l i (omega arith) within) in
    rw (colour-site_at l (x_of l i) (y_of l i) (next l (z_of l i)) x y) (omega arith)

-- and so has the one a step back
pub colour-backward : (l i d : ℕ) → IsLawfulSize l → i < volume l → colour l (backward l i d) + colour l i ≡ 1
unfolding backward
colour-backward l i zero lawful within =
    let even = lawful.2 in
    let x = x_of-below l i (omega arith) in
    let y = y_of-below l i (omega arith) in
    let parity = previous-parity l (x_of l i) even x in
    rw (colour-site_at l (previous l (x_of l i)) (y_of l i) (z_of l i) (previous-below l (x_of l i) x) y) (omega arith)
colour-backward l i (suc zero) lawful within =
    let even = lawful.2 in
    let x = x_of-below l i (omega arith) in
    let y = y_of-below l i (omega arith) in
    let parity = previous-parity l (y_of l i) even y in
    rw (colour-site_at l (x_of l i) (previous l (y_of l i)) (z_of l i) x (previous-below l (y_of l i) y)) (omega arith)
colour-backward l i (suc (suc d)) lawful within =
    let even = lawful.2 in
    let x = x_of-below l i (omega arith) in
    let y = y_of-below l i (omega arith) in
    let parity = previous-parity l (z_of l i) even (z_of-below l i (omega arith) within) in
    rw (colour-site_at l (x_of l i) (y_of l i) (previous l (z_of l i)) x y) (omega arith)

-- two numbers that sum to 1 differ
pub differs : (a b : ℕ) → a + b ≡ 1 → a ≢ b
differs a b one = λ same. omega arith
