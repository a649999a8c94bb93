-- One step on and one step back undo each other on the periodic cube, in each direction.
use Rattle.std.proofs.Common.{inl, inr, ◌≡◌, ℕ, ◌+◌, ◌-◌, ◌*◌, ◌%◌, ◌<◌, ap, sym, ◌∙◌, arith}
use Rattle.std.proofs.lemmas.Bool.{cases_lt, cases_eq}
use Rattle.std.proofs.lemmas.Nat.{mod-mul-add, mod_below}
use Rattle.std.proofs.Math.Nat.{mod-eq_of_lt, mod_self}
use Rattle.spin_model.specs.Lattice.{volume, site_at, x_of, y_of, z_of, next, previous, forward, backward}
use Rattle.spin_model.proofs.Sites.{x_of-site_at, y_of-site_at, z_of-site_at, x_of-below, y_of-below, z_of-below, site_at-coordinates, site_at-below}
use Rattle.scalar_rule.proofs.FiniteSums.{ArePermutation}

previous-next : (l x : ℕ) → x < l → previous l (next l x) ≡ x
previous-next l x below = elim (cases_lt (x + 1) l) [
  | inl less ↦
      let place : x + 1 + l - 1 ≡ 1 * l + x = omega arith in
      ap (λ n. (n + l - 1) % l) (mod-eq_of_lt less) ∙ ap (λ n. n % l) place ∙ mod-mul-add 1 l x below
  | inr not ↦
      let full : x + 1 ≡ l = omega arith in
      let last : 0 + l - 1 ≡ x = omega arith in
      ap (λ n. (n % l + l - 1) % l) full ∙ ap (λ n. (n + l - 1) % l) (mod_self l) ∙ ap (λ n. n % l) last ∙ mod-eq_of_lt below
]

next-previous : (l x : ℕ) → x < l → next l (previous l x) ≡ x
next-previous l x below = elim (cases_eq x 0) [
  | inl first ↦
      let last : x + l - 1 ≡ l - 1 = omega arith in
      let less : l - 1 < l = omega arith in
      let full : l - 1 + 1 ≡ l = omega arith in
      ap (λ n. (n % l + 1) % l) last ∙ ap (λ n. (n + 1) % l) (mod-eq_of_lt less) ∙ ap (λ n. n % l) full ∙ mod_self l ∙ sym first
  | inr other ↦
      let place : x + l - 1 ≡ 1 * l + (x - 1) = omega arith in
      let back : x - 1 + 1 ≡ x = omega arith in
      ap (λ n. (n % l + 1) % l) place ∙ ap (λ n. (n + 1) % l) (mod-mul-add 1 l (x - 1) (omega arith)) ∙ ap (λ n. n % l) back ∙ mod-eq_of_lt below
]

site_at-same : (l x y z a b c : ℕ) → x ≡ a → y ≡ b → z ≡ c → site_at l x y z ≡ site_at l a b c
site_at-same l x y z a b c ex ey ez = ap (λ n. site_at l n y z) ex ∙ ap (λ n. site_at l a n z) ey ∙ ap (λ n. site_at l a b n) ez

-- f of the coordinates of a site, and then g of those of the site that this gives
pub record Undo (f g : ℕ → ℕ) (l : ℕ) : Type 0 where
  pub within : (x : ℕ) → x < l → f x < l
  pub undone : (x : ℕ) → x < l → g (f x) ≡ x

next-undone : (l : ℕ) → 0 < l → Undo (next l) (previous l) l
next-undone l some = record { within = λ x below. mod_below (x + 1) l some; undone = previous-next l }

previous-undone : (l : ℕ) → 0 < l → Undo (previous l) (next l) l
previous-undone l some = record { within = λ x below. mod_below (x + l - 1) l some; undone = next-previous l }

along-x : (f g : ℕ → ℕ) (l i : ℕ) → 0 < l → i < volume l → Undo f g l
    → site_at l (g (x_of l (site_at l (f (x_of l i)) (y_of l i) (z_of l i)))) (y_of l (site_at l (f (x_of l i)) (y_of l i) (z_of l i))) (z_of l (site_at l (f (x_of l i)) (y_of l i) (z_of l i))) ≡ i
along-x f g l i some below u =
    let hx = x_of-below l i some in
    let hy = y_of-below l i some in
    let fx = u.within (x_of l i) hx in
    site_at-same l _ _ _ (x_of l i) (y_of l i) (z_of l i)
    (ap g (x_of-site_at l (f (x_of l i)) (y_of l i) (z_of l i) fx) ∙ u.undone (x_of l i) hx)
    (y_of-site_at l (f (x_of l i)) (y_of l i) (z_of l i) fx hy)
    (z_of-site_at l (f (x_of l i)) (y_of l i) (z_of l i) fx hy)
    ∙ site_at-coordinates l i some

along-y : (f g : ℕ → ℕ) (l i : ℕ) → 0 < l → i < volume l → Undo f g l
    → site_at l (x_of l (site_at l (x_of l i) (f (y_of l i)) (z_of l i))) (g (y_of l (site_at l (x_of l i) (f (y_of l i)) (z_of l i)))) (z_of l (site_at l (x_of l i) (f (y_of l i)) (z_of l i))) ≡ i
along-y f g l i some below u =
    let hx = x_of-below l i some in
    let hy = y_of-below l i some in
    let fy = u.within (y_of l i) hy in
    site_at-same l _ _ _ (x_of l i) (y_of l i) (z_of l i)
    (x_of-site_at l (x_of l i) (f (y_of l i)) (z_of l i) hx)
    (ap g (y_of-site_at l (x_of l i) (f (y_of l i)) (z_of l i) hx fy) ∙ u.undone (y_of l i) hy)
    (z_of-site_at l (x_of l i) (f (y_of l i)) (z_of l i) hx fy)
    ∙ site_at-coordinates l i some

along-z : (f g : ℕ → ℕ) (l i : ℕ) → 0 < l → i < volume l → Undo f g l
    → site_at l (x_of l (site_at l (x_of l i) (y_of l i) (f (z_of l i)))) (y_of l (site_at l (x_of l i) (y_of l i) (f (z_of l i)))) (g (z_of l (site_at l (x_of l i) (y_of l i) (f (z_of l i))))) ≡ i
along-z f g l i some below u =
    let hx = x_of-below l i some in
    let hy = y_of-below l i some in
    let hz = z_of-below l i some below in
    site_at-same l _ _ _ (x_of l i) (y_of l i) (z_of l i)
    (x_of-site_at l (x_of l i) (y_of l i) (f (z_of l i)) hx)
    (y_of-site_at l (x_of l i) (y_of l i) (f (z_of l i)) hx hy)
    (ap g (z_of-site_at l (x_of l i) (y_of l i) (f (z_of l i)) hx hy) ∙ u.undone (z_of l i) hz)
    ∙ site_at-coordinates l i some

pub shift-x : (l : ℕ) → 0 < l → ArePermutation (λ i. forward l i 0) (λ i. backward l i 0) (volume l)
unfolding forward backward
shift-x l some =
    let u = next-undone l some in
    let v = previous-undone l some in
    record {
      on = λ i below. site_at-below l _ _ _ (u.within _ (x_of-below l i some)) (y_of-below l i some) (z_of-below l i some below);
      back = λ i below. site_at-below l _ _ _ (v.within _ (x_of-below l i some)) (y_of-below l i some) (z_of-below l i some below);
      undone = λ i below. along-x (next l) (previous l) l i some below u;
      redone = λ i below. along-x (previous l) (next l) l i some below v;
    }

pub shift-y : (l : ℕ) → 0 < l → ArePermutation (λ i. forward l i 1) (λ i. backward l i 1) (volume l)
unfolding forward backward
shift-y l some =
    let u = next-undone l some in
    let v = previous-undone l some in
    record {
      on = λ i below. site_at-below l _ _ _ (x_of-below l i some) (u.within _ (y_of-below l i some)) (z_of-below l i some below);
      back = λ i below. site_at-below l _ _ _ (x_of-below l i some) (v.within _ (y_of-below l i some)) (z_of-below l i some below);
      undone = λ i below. along-y (next l) (previous l) l i some below u;
      redone = λ i below. along-y (previous l) (next l) l i some below v;
    }

pub shift-z : (l : ℕ) → 0 < l → ArePermutation (λ i. forward l i 2) (λ i. backward l i 2) (volume l)
unfolding forward backward
shift-z l some =
    let u = next-undone l some in
    let v = previous-undone l some in
    record {
      on = λ i below. site_at-below l _ _ _ (x_of-below l i some) (y_of-below l i some) (u.within _ (z_of-below l i some below));
      back = λ i below. site_at-below l _ _ _ (x_of-below l i some) (y_of-below l i some) (v.within _ (z_of-below l i some below));
      undone = λ i below. along-z (next l) (previous l) l i some below u;
      redone = λ i below. along-z (previous l) (next l) l i some below v;
    }
