-- Sums over all sites, axis by axis: they stay the same where each site is taken some steps on.
use Rattle.std.proofs.Common.{◌≡◌, ℕ, zero, suc, ◌+◌, ◌-◌, ◌*◌, ◌/◌, ◌%◌, ◌<◌, ◌≤◌, Bool, List, ℤ, refl, ap, ◌∙◌, sym, arith}
use Rattle.std.specs.Prelude.{◌+ℤ◌, ◌*ℤ◌}
use Rattle.std.proofs.Math.IntN.{*ℤ_comm}
use Rattle.std.proofs.Math.Nat.{add-mul, mul_comm}
use Rattle.std.proofs.lemmas.Nat.{mod_below, mod-mul-add, div-mul-add}
use Rattle.spin_model.specs.Lattice.{IsLawfulSize, volume, bond_count, site_at, forward}
use Rattle.spin_model.specs.SignedSums.{sum_of}
use Rattle.spin_model.proofs.Sites.{site_at-planes}
use Rattle.measured_sums.proofs.SignedTerms.{terms-same, terms-swap, terms-range, terms-around, returned}
use Rattle.overlap_lines.specs.Overlaps.{steps_on, link_sum, line_sum}
use Rattle.overlap_lines.proofs.StepPlaces.{steps-x, steps-y, steps-z}
use Rattle.observable_laws.specs.Observables.{overlap_value}
use Rattle.observable_laws.proofs.Products.{link-sum, line-sum}

-- n blocks of m
terms-blocks : (f : ℕ → ℤ) (n m : ℕ) → sum_of f (n * m) ≡ sum_of (λ k. sum_of (λ j. f (k * m + j)) m) n
unfolding sum_of
terms-blocks f zero m = let none : 0 * m ≡ 0 = omega arith in ap (sum_of f) none
terms-blocks f (suc n) m =
    let parts = add-mul n 1 m in
    let next : suc n ≡ n + 1 = omega arith in
    let more : suc n * m ≡ n * m + m = ap (λ k. k * m) next ∙ parts ∙ omega arith in
    ap (sum_of f) more ∙ terms-range f (n * m) m ∙ ap (λ s. s +ℤ sum_of (λ j. f (n * m + j)) m) (terms-blocks f n m)

-- the sum over x, y and z
abbrev over_axes : (ℕ → ℤ) → ℕ → ℤ
over_axes f l = sum_of (λ z. sum_of (λ y. sum_of (λ x. f (site_at l x y z)) l) l) l

axes-same : (f g : ℕ → ℤ) (l : ℕ) → ((x y z : ℕ) → x < l → y < l → z < l → f (site_at l x y z) ≡ g (site_at l x y z)) → over_axes f l ≡ over_axes g l
axes-same f g l same =
    terms-same (λ z. sum_of (λ y. sum_of (λ x. f (site_at l x y z)) l) l) (λ z. sum_of (λ y. sum_of (λ x. g (site_at l x y z)) l) l) l
    (λ z hz. terms-same (λ y. sum_of (λ x. f (site_at l x y z)) l) (λ y. sum_of (λ x. g (site_at l x y z)) l) l
    (λ y hy. terms-same (λ x. f (site_at l x y z)) (λ x. g (site_at l x y z)) l (λ x hx. same x y z hx hy hz)))

sites-by-axes : (f : ℕ → ℤ) (l : ℕ) → sum_of f (volume l) ≡ over_axes f l
sites-by-axes f l =
    let order : volume l ≡ l * (l * l) = mul_comm (l * l) l in
    ap (sum_of f) order
    ∙ terms-blocks f l (l * l)
    ∙ terms-same (λ z. sum_of (λ j. f (z * (l * l) + j)) (l * l)) (λ z. sum_of (λ y. sum_of (λ x. f (site_at l x y z)) l) l) l
    (λ z hz. terms-blocks (λ j. f (z * (l * l) + j)) l l
    ∙ terms-same (λ y. sum_of (λ x. f (z * (l * l) + (y * l + x))) l) (λ y. sum_of (λ x. f (site_at l x y z)) l) l
    (λ y hy. terms-same (λ x. f (z * (l * l) + (y * l + x))) (λ x. f (site_at l x y z)) l (λ x hx. ap f (sym (site_at-planes l x y z)))))

-- ---- each site taken r steps on

axes-on : (f : ℕ → ℤ) (l d r : ℕ) → d < 3 → r ≤ l → over_axes (λ i. f (steps_on l i d r)) l ≡ over_axes f l
axes-on f l zero r h within =
    terms-same (λ z. sum_of (λ y. sum_of (λ x. f (steps_on l (site_at l x y z) 0 r)) l) l) (λ z. sum_of (λ y. sum_of (λ x. f (site_at l x y z)) l) l) l
    (λ z hz. terms-same (λ y. sum_of (λ x. f (steps_on l (site_at l x y z) 0 r)) l) (λ y. sum_of (λ x. f (site_at l x y z)) l) l
    (λ y hy. terms-same (λ x. f (steps_on l (site_at l x y z) 0 r)) (λ x. f (site_at l ((x + r) % l) y z)) l (λ x hx. ap f (steps-x l x y z r hx hy))
    ∙ terms-around (λ x. f (site_at l x y z)) l r within))
axes-on f l (suc zero) r h within =
    terms-same (λ z. sum_of (λ y. sum_of (λ x. f (steps_on l (site_at l x y z) 1 r)) l) l) (λ z. sum_of (λ y. sum_of (λ x. f (site_at l x y z)) l) l) l
    (λ z hz. terms-same (λ y. sum_of (λ x. f (steps_on l (site_at l x y z) 1 r)) l) (λ y. sum_of (λ x. f (site_at l x ((y + r) % l) z)) l) l
    (λ y hy. terms-same (λ x. f (steps_on l (site_at l x y z) 1 r)) (λ x. f (site_at l x ((y + r) % l) z)) l (λ x hx. ap f (steps-y l x y z r hx hy)))
    ∙ terms-around (λ y. sum_of (λ x. f (site_at l x y z)) l) l r within)
axes-on f l (suc (suc zero)) r h within =
    terms-same (λ z. sum_of (λ y. sum_of (λ x. f (steps_on l (site_at l x y z) 2 r)) l) l) (λ z. sum_of (λ y. sum_of (λ x. f (site_at l x y ((z + r) % l))) l) l) l
    (λ z hz. terms-same (λ y. sum_of (λ x. f (steps_on l (site_at l x y z) 2 r)) l) (λ y. sum_of (λ x. f (site_at l x y ((z + r) % l))) l) l
    (λ y hy. terms-same (λ x. f (steps_on l (site_at l x y z) 2 r)) (λ x. f (site_at l x y ((z + r) % l))) l (λ x hx. ap f (steps-z l x y z r hx hy hz))))
    ∙ terms-around (λ z. sum_of (λ y. sum_of (λ x. f (site_at l x y z)) l) l) l r within
axes-on f l (suc (suc (suc d))) r h within = absurd (omega arith)

-- as many steps on as are left of the whole circle lead back
steps-back : (l x y z d r : ℕ) → d < 3 → r ≤ l → x < l → y < l → z < l → steps_on l (steps_on l (site_at l x y z) d r) d (l - r) ≡ site_at l x y z
steps-back l x y z zero r h within hx hy hz =
    ap (λ i. steps_on l i 0 (l - r)) (steps-x l x y z r hx hy)
    ∙ steps-x l ((x + r) % l) y z (l - r) (mod_below (x + r) l (omega arith)) hy
    ∙ ap (λ v. site_at l v y z) (returned x l r hx within)
steps-back l x y z (suc zero) r h within hx hy hz =
    ap (λ i. steps_on l i 1 (l - r)) (steps-y l x y z r hx hy)
    ∙ steps-y l x ((y + r) % l) z (l - r) hx (mod_below (y + r) l (omega arith))
    ∙ ap (λ v. site_at l x v z) (returned y l r hy within)
steps-back l x y z (suc (suc zero)) r h within hx hy hz =
    ap (λ i. steps_on l i 2 (l - r)) (steps-z l x y z r hx hy hz)
    ∙ steps-z l x y ((z + r) % l) (l - r) hx hy (mod_below (z + r) l (omega arith))
    ∙ ap (λ v. site_at l x y v) (returned z l r hz within)
steps-back l x y z (suc (suc (suc d))) r h within hx hy hz = absurd (omega arith)

pub lines-symmetric : (l : ℕ) (first second : List Bool) (d r : ℕ) → IsLawfulSize l → d < 3 → r ≤ l
    → line_sum l first second d (l - r) ≡ line_sum l first second d r
lines-symmetric l first second d r lawful h within =
    let q = overlap_value first second in
    let far = λ (i : ℕ). q i *ℤ q (steps_on l i d (l - r)) in
    let near = λ (i : ℕ). q i *ℤ q (steps_on l i d r) in
    let turned : over_axes (λ i. far (steps_on l i d r)) l ≡ over_axes near l = axes-same (λ i. far (steps_on l i d r)) near l
    (λ x y z hx hy hz. ap (λ i. q (steps_on l (site_at l x y z) d r) *ℤ q i) (steps-back l x y z d r h within hx hy hz)
    ∙ *ℤ_comm (q (steps_on l (site_at l x y z) d r)) (q (site_at l x y z))) in
    line-sum l first second d (l - r)
    ∙ sites-by-axes far l
    ∙ sym (axes-on far l d r h within)
    ∙ turned
    ∙ sym (sites-by-axes near l)
    ∙ sym (line-sum l first second d r)

-- ---- one step on

one-step : (l i d : ℕ) → steps_on l i d 1 ≡ forward l i d
unfolding steps_on
one-step l i d = refl

pub links-shortest : (l : ℕ) (first second : List Bool) → link_sum l first second ≡ sum_of (λ d. line_sum l first second d 1) 3
links-shortest l first second =
    let q = overlap_value first second in
    let bonds = λ (n : ℕ). q (n / 3) *ℤ q (forward l (n / 3) (n % 3)) in
    let ends = λ (i d : ℕ). q i *ℤ q (forward l i d) in
    let order : bond_count l ≡ volume l * 3 = mul_comm 3 (volume l) in
    link-sum l first second
    ∙ ap (sum_of bonds) order
    ∙ terms-blocks bonds (volume l) 3
    ∙ terms-same (λ i. sum_of (λ d. bonds (i * 3 + d)) 3) (λ i. sum_of (ends i) 3) (volume l)
    (λ i hi. terms-same (λ d. bonds (i * 3 + d)) (ends i) 3
    (λ d hd. let site = div-mul-add i 3 d hd in let way = mod-mul-add i 3 d hd in rw (site, way) refl))
    ∙ terms-swap ends (volume l) 3
    ∙ terms-same (λ d. sum_of (λ i. ends i d) (volume l)) (λ d. line_sum l first second d 1) 3
    (λ d hd. terms-same (λ i. ends i d) (λ i. q i *ℤ q (steps_on l i d 1)) (volume l) (λ i hi. ap (λ k. q i *ℤ q k) (sym (one-step l i d)))
    ∙ sym (line-sum l first second d 1))
