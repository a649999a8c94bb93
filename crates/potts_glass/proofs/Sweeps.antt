-- A half sweep in rows and pairs of sites: of two neighbours in x one has the class.
use Rattle.std.proofs.Common.{◌≡◌, ◌≢◌, ℕ, zero, suc, ◌+◌, ◌-◌, ◌*◌, ◌/◌, ◌%◌, ◌^◌, ◌<◌, ◌≤◌, nat_lt, true, false, cond, ◌==◌, if◌then◌else◌, List, [], get_or, set, refl, sym, ap, ◌∙◌, subst, arith, zero-add, add-one}
use Rattle.std.proofs.lemmas.Bool.{eqb-true}
use Rattle.std.proofs.lemmas.Nat.{div-mul-add, mul-add-lt}
use Rattle.std.proofs.lemmas.List.{get_or-set_other}
use Rattle.std.proofs.Math.Nat.{mul_assoc, mul_comm}
use native.Mathlib.Nat.{mod-lt, suc-mul}
use Rattle.spin_model.specs.Lattice.{IsLawfulSize, volume, site_at, x_of, y_of, z_of, forward, backward, colour as class, place_in_plane}
use Rattle.spin_model.specs.Steps.{steps}
use Rattle.spin_model.specs.Stream.{draw, draws}
use Rattle.spin_model.proofs.Colours.{colour-site_at, colour-forward, colour-backward}
use Rattle.spin_model.proofs.Counts.{count-same}
use Rattle.spin_model.proofs.Sites.{x_of-site_at, y_of-site_at, site_at-planes, site_at-below}
use Rattle.spin_model.proofs.Stepping.{steps-same, steps-add, steps-more, cond-same}
use Rattle.spin_model.proofs.Tables.{get_or-table}
use Rattle.potts_glass.specs.Potts.{Dynamics, Surroundings, favours, votes, is_made, proposed, new_colour, step_of, neighbour, around, updated, visit, site_draw, plane_drawn}
use Rattle.potts_glass.specs.SitesBeside.{renewed}

-- ---- what a site sees

-- two surroundings that agree at the six neighbours
pub record AgreeAround (s t : Surroundings) : Type 0 where
  pub colours : (k : ℕ) → k < 6 → s.colour k ≡ t.colour k
  pub bonds : (k : ℕ) → k < 6 → s.negative k ≡ t.negative k

votes-same : (s t : Surroundings) (c other : ℕ) → AgreeAround s t → votes s c other ≡ votes t c other
votes-same s t c other a = count-same (favours s c other) (favours t c other) 6 (λ k h. rw (a.colours k h, a.bonds k h) refl)

-- give the site one new colour
pub new_colour-same : (thresholds : List ℕ) (step v : ℕ) (s t : Surroundings) (c : ℕ) → AgreeAround s t → new_colour thresholds step v s c ≡ new_colour thresholds step v t c
new_colour-same thresholds step v s t c a =
    let lost = votes-same s t c (proposed c step) a in
    let won = votes-same s t (proposed c step) c a in
    ap (λ n. if is_made thresholds n (votes s (proposed c step) c) v then proposed c step else c) lost
    ∙ ap (λ n. if is_made thresholds (votes t c (proposed c step)) n v then proposed c step else c) won

-- ---- pairs of sites

-- a visit is a write at the site, or nothing
visit-here : (d : Dynamics) (draw_at : ℕ → ℕ → ℕ) (c i : ℕ) (colours : List ℕ) → class d.size i ≡ c → visit d draw_at c i colours ≡ set colours i (updated d draw_at colours i)
unfolding visit
visit-here d draw_at c i colours same = rw same (grind arith)

visit-not : (d : Dynamics) (draw_at : ℕ → ℕ → ℕ) (c i : ℕ) (colours : List ℕ) → class d.size i ≢ c → visit d draw_at c i colours ≡ colours
unfolding visit
visit-not d draw_at c i colours other = elim (class d.size i == c) as (λ b. (class d.size i == c) ≡ b → cond b (set colours i (updated d draw_at colours i)) colours ≡ colours) [
  | true ↦ λ yes. absurd (other (eqb-true _ _ yes))
  | false ↦ λ _. refl
] refl

-- the draws m of each site in a list of those of its plane
abbrev pub listed : ℕ → List ℕ → ℕ → ℕ → ℕ
listed l xs i m = get_or xs (2 * place_in_plane l i + m) 0

-- the site of class c in pair k of row y in plane z
abbrev pub pair_site : ℕ → ℕ → ℕ → ℕ → ℕ → ℕ
pair_site l c y z k = site_at l (2 * k + (c + y + z) % 2) y z

-- a site of a row by the row's first one
row-site : (l x y z : ℕ) → z * (l * l) + y * l + x ≡ site_at l x y z
row-site l x y z = let planes = site_at-planes l x y z in omega arith

-- of a pair only that site is visited
pair-visits : (d : Dynamics) (draw_at : ℕ → ℕ → ℕ) (c y z k p : ℕ) (s : List ℕ) → IsLawfulSize d.size → c < 2 → y < d.size → k < d.size / 2 → p < 2 → (c + y + z) % 2 ≡ p
    → steps (visit d draw_at c) (z * (d.size * d.size) + y * d.size) (2 * (k + 1)) s
    ≡ visit d draw_at c (site_at d.size (2 * k + p) y z) (steps (visit d draw_at c) (z * (d.size * d.size) + y * d.size) (2 * k) s)
pair-visits d draw_at c y z k p s lawful chosen row column bit parity =
    let l = d.size in
    let start = z * (l * l) + y * l in
    let now = steps (visit d draw_at c) start (2 * k) s in
    let twice : 2 * (k + 1) ≡ 2 * k + 1 + 1 = omega arith in
    let later : start + (2 * k + 1) ≡ site_at l (2 * k + 1) y z = row-site l (2 * k + 1) y z in
    let earlier : start + 2 * k ≡ site_at l (2 * k) y z = row-site l (2 * k) y z in
    let first : class l (site_at l (2 * k) y z) ≡ (2 * k + y + z) % 2 = colour-site_at l (2 * k) y z (omega arith) row in
    let second : class l (site_at l (2 * k + 1) y z) ≡ (2 * k + 1 + y + z) % 2 = colour-site_at l (2 * k + 1) y z (omega arith) row in
    ap (λ n. steps (visit d draw_at c) start n s) twice
    ∙ steps-more (visit d draw_at c) start (2 * k + 1) s
    ∙ ap (visit d draw_at c (start + (2 * k + 1))) (steps-more (visit d draw_at c) start (2 * k) s)
    ∙ ap (λ i. visit d draw_at c i (visit d draw_at c (start + 2 * k) now)) later
    ∙ ap (λ i. visit d draw_at c (site_at l (2 * k + 1) y z) (visit d draw_at c i now)) earlier
    ∙ by_parity p bit parity first second
  where
    by_parity : (p : ℕ) → p < 2 → (c + y + z) % 2 ≡ p
        → class d.size (site_at d.size (2 * k) y z) ≡ (2 * k + y + z) % 2
        → class d.size (site_at d.size (2 * k + 1) y z) ≡ (2 * k + 1 + y + z) % 2
        → visit d draw_at c (site_at d.size (2 * k + 1) y z) (visit d draw_at c (site_at d.size (2 * k) y z) (steps (visit d draw_at c) (z * (d.size * d.size) + y * d.size) (2 * k) s))
        ≡ visit d draw_at c (site_at d.size (2 * k + p) y z) (steps (visit d draw_at c) (z * (d.size * d.size) + y * d.size) (2 * k) s)
    by_parity zero _ parity first second =
        let place : 2 * k + 0 ≡ 2 * k = omega arith in
        visit-not d draw_at c (site_at d.size (2 * k + 1) y z) _ (λ e. omega arith)
        ∙ ap (λ x. visit d draw_at c (site_at d.size x y z) (steps (visit d draw_at c) (z * (d.size * d.size) + y * d.size) (2 * k) s)) (sym place)
    by_parity (suc zero) _ parity first second =
        ap (visit d draw_at c (site_at d.size (2 * k + 1) y z)) (visit-not d draw_at c (site_at d.size (2 * k) y z) _ (λ e. omega arith))
    by_parity (suc (suc n)) bit parity first second = absurd (omega arith)

-- ---- several sites of a row at once

-- each of them stands apart from those before it
apart-in_row : (l x y z n m : ℕ) → m < n → site_at l (x + 2 * n) y z ≢ site_at l (x + 2 * m) y z
apart-in_row l x y z n m less = λ e. absurd (omega (arith, e, less))

-- the sites beside them keep their colours
renewed-apart : (d : Dynamics) (draw_at : ℕ → ℕ → ℕ) (x y z n : ℕ) (s : List ℕ) (j : ℕ) → ((m : ℕ) → m < n → j ≢ site_at d.size (x + 2 * m) y z)
    → get_or (renewed d draw_at x y z n s) j 0 ≡ get_or s j 0
unfolding renewed
renewed-apart d draw_at x y z zero s j other = refl
renewed-apart d draw_at x y z (suc n) s j other =
    get_or-set_other (renewed d draw_at x y z n s) (site_at d.size (x + 2 * n) y z) j _ 0 (other n (omega arith))
    ∙ renewed-apart d draw_at x y z n s j (λ m less. other m (omega arith))

-- no neighbour of a site has the site's class
class-near : (l i k : ℕ) → IsLawfulSize l → i < volume l → class l (neighbour l i k) + class l i ≡ 1
class-near l i k lawful within = elim (nat_lt k 3) as (λ b. class l (if b then forward l i k else backward l i (k - 3)) + class l i ≡ 1) [
  | true ↦ colour-forward l i k lawful within
  | false ↦ colour-backward l i (k - 3) lawful within
]

-- so the next site of the row gets its new colour as if none had been renewed
updated-renewed : (d : Dynamics) (draw_at : ℕ → ℕ → ℕ) (c x y z n : ℕ) (s : List ℕ) → IsLawfulSize d.size → x + 2 * n < d.size → y < d.size → z < d.size → (x + y + z) % 2 ≡ c
    → updated d draw_at (renewed d draw_at x y z n s) (site_at d.size (x + 2 * n) y z) ≡ updated d draw_at s (site_at d.size (x + 2 * n) y z)
updated-renewed d draw_at c x y z n s lawful column row plane parity =
    let l = d.size in
    let j = site_at l (x + 2 * n) y z in
    let now = renewed d draw_at x y z n s in
    let of_class : (m : ℕ) → m ≤ n → class l (site_at l (x + 2 * m) y z) ≡ c = λ m most. colour-site_at l (x + 2 * m) y z (omega (arith, most)) row ∙ omega (arith, parity) in
    let agree : AgreeAround (around l d.bonds now j) (around l d.bonds s j) = record {
      colours = λ k h. renewed-apart d draw_at x y z n s (neighbour l j k) (λ m less e.
          absurd (omega (arith, class-near l j k lawful (site_at-below l (x + 2 * n) y z column row plane), of_class n (omega arith), ap (class l) e, of_class m (omega arith))));
      bonds = λ k h. refl;
    } in
    let own : get_or now j 0 ≡ get_or s j 0 = renewed-apart d draw_at x y z n s j (apart-in_row l x y z n) in
    new_colour-same d.thresholds (step_of (draw_at j 0)) (draw_at j 1) (around l d.bonds now j) (around l d.bonds s j) (get_or now j 0) agree
    ∙ ap (new_colour d.thresholds (step_of (draw_at j 0)) (draw_at j 1) (around l d.bonds s j)) own

-- n pairs more, at once
pub renewed-visits : (d : Dynamics) (draw_at : ℕ → ℕ → ℕ) (c y z k n : ℕ) (s : List ℕ) → IsLawfulSize d.size → c < 2 → y < d.size → z < d.size → k + n ≤ d.size / 2
    → renewed d draw_at (2 * k + (c + y + z) % 2) y z n (steps (visit d draw_at c) (z * (d.size * d.size) + y * d.size) (2 * k) s)
    ≡ steps (visit d draw_at c) (z * (d.size * d.size) + y * d.size) (2 * (k + n)) s
unfolding renewed
renewed-visits d draw_at c y z k zero s lawful chosen row plane within =
    let none : k ≡ k + 0 = omega arith in
    ap (λ m. steps (visit d draw_at c) (z * (d.size * d.size) + y * d.size) (2 * m) s) none
renewed-visits d draw_at c y z k (suc n) s lawful chosen row plane within =
    let l = d.size in
    let p = (c + y + z) % 2 in
    let x = 2 * k + p in
    let start = z * (l * l) + y * l in
    let old = steps (visit d draw_at c) start (2 * k) s in
    let before = renewed-visits d draw_at c y z k n s lawful chosen row plane (omega arith) in
    let parity : (x + y + z) % 2 ≡ c = omega arith in
    let column : x + 2 * n < l = omega arith in
    let place : 2 * (k + n) + p ≡ x + 2 * n = omega arith in
    let more : k + suc n ≡ k + n + 1 = omega arith in
    let here : class l (site_at l (x + 2 * n) y z) ≡ c = colour-site_at l (x + 2 * n) y z column row ∙ omega (arith, parity) in
    ap (set (renewed d draw_at x y z n old) (site_at l (x + 2 * n) y z)) (sym (updated-renewed d draw_at c x y z n old lawful column row plane parity))
    ∙ sym (visit-here d draw_at c (site_at l (x + 2 * n) y z) (renewed d draw_at x y z n old) here)
    ∙ ap (visit d draw_at c (site_at l (x + 2 * n) y z)) before
    ∙ ap (λ u. visit d draw_at c (site_at l u y z) (steps (visit d draw_at c) start (2 * (k + n)) s)) (sym place)
    ∙ sym (pair-visits d draw_at c y z (k + n) p s lawful chosen row (omega arith) (omega arith) refl)
    ∙ ap (λ m. steps (visit d draw_at c) start (2 * m) s) (sym more)

-- the number of a pair's draws in its plane
pair-place : (l c y z k : ℕ) → l % 2 ≡ 0 → y < l → k < l / 2 → place_in_plane l (pair_site l c y z k) ≡ y * (l / 2) + k
pair-place l c y z k even row column =
    let at_x = x_of-site_at l (2 * k + (c + y + z) % 2) y z (omega arith) in
    let at_y = y_of-site_at l (2 * k + (c + y + z) % 2) y z (omega arith) row in
    let half : (2 * k + (c + y + z) % 2) / 2 ≡ k = omega arith in
    rw (at_x, at_y, half) refl

-- one pair more
pub pair-more : (d : Dynamics) (xs : List ℕ) (c y z k : ℕ) (s now new : List ℕ) → IsLawfulSize d.size → c < 2 → y < d.size → k < d.size / 2
    → now ≡ steps (visit d (listed d.size xs) c) (z * (d.size * d.size) + y * d.size) (2 * k) s
    → new ≡ set now (pair_site d.size c y z k)
    (new_colour d.thresholds (step_of (get_or xs (2 * (y * (d.size / 2) + k)) 0)) (get_or xs (2 * (y * (d.size / 2) + k) + 1) 0)
    (around d.size d.bonds now (pair_site d.size c y z k)) (get_or now (pair_site d.size c y z k) 0))
    → new ≡ steps (visit d (listed d.size xs) c) (z * (d.size * d.size) + y * d.size) (2 * (k + 1)) s
pair-more d xs c y z k s now new lawful chosen row column before wrote =
    let l = d.size in
    let i = pair_site l c y z k in
    let place = pair-place l c y z k lawful.2 row column in
    let none : 2 * (y * (l / 2) + k) + 0 ≡ 2 * (y * (l / 2) + k) = omega arith in
    let first : listed l xs i 0 ≡ get_or xs (2 * (y * (l / 2) + k)) 0 = ap (λ n. get_or xs (2 * n + 0) 0) place ∙ ap (λ n. get_or xs n 0) none in
    let second : listed l xs i 1 ≡ get_or xs (2 * (y * (l / 2) + k) + 1) 0 = ap (λ n. get_or xs (2 * n + 1) 0) place in
    let here : class l i ≡ c = colour-site_at l (2 * k + (c + y + z) % 2) y z (omega arith) row ∙ omega arith in
    wrote
    ∙ ap (λ u. set now i (new_colour d.thresholds (step_of u) (get_or xs (2 * (y * (l / 2) + k) + 1) 0) (around l d.bonds now i) (get_or now i 0))) (sym first)
    ∙ ap (λ v. set now i (new_colour d.thresholds (step_of (listed l xs i 0)) v (around l d.bonds now i) (get_or now i 0))) (sym second)
    ∙ sym (visit-here d (listed l xs) c i now here)
    ∙ ap (visit d (listed l xs) c i) before
    ∙ sym (pair-visits d (listed l xs) c y z k ((c + y + z) % 2) s lawful chosen row column (omega arith) refl)

-- ---- planes

-- both draws of a site are among those of its plane
place-below : (l i m : ℕ) → IsLawfulSize l → m < 2 → 2 * place_in_plane l i + m < l * l
place-below l i m lawful either =
    let x : x_of l i < l = mod-lt i (omega arith) in
    let y : y_of l i < l = mod-lt (i / l) (omega arith) in
    let place : place_in_plane l i < l / 2 * l = mul-add-lt (y_of l i) (l / 2) (x_of l i / 2) l y (omega arith) in
    let turned = mul_comm (l / 2) l in
    let even : l ≡ l / 2 * 2 = omega arith in
    let whole : l * l ≡ l * (l / 2) * 2 = ap (λ n. l * n) even ∙ sym (mul_assoc l (l / 2) 2) in
    omega arith

-- and are read from the list of those
draw-listed : (l : ℕ) (words : List (List ℕ)) (c z i m : ℕ) → IsLawfulSize l → m < 2 → class l i ≡ c → z_of l i ≡ z
    → listed l (draws (get_or words (c * l + z) []) (l * l)) i m ≡ site_draw l words i m
draw-listed l words c z i m lawful either same plane =
    get_or-table (draw (get_or words (c * l + z) [])) (l * l) (2 * place_in_plane l i + m) 0 (place-below l i m lawful either)
    ∙ ap (λ w. draw (get_or words w []) (2 * place_in_plane l i + m)) (sym (ap (λ k. k * l + z_of l i) same ∙ ap (λ k. c * l + k) plane))

plane-visits : (d : Dynamics) (words : List (List ℕ)) (c z : ℕ) (s : List ℕ) → IsLawfulSize d.size
    → steps (visit d (listed d.size (draws (get_or words (c * d.size + z) []) (d.size * d.size))) c) (z * (d.size * d.size)) (d.size * d.size) s
    ≡ steps (visit d (site_draw d.size words) c) (z * (d.size * d.size)) (d.size * d.size) s
unfolding visit
plane-visits d words c z s lawful = steps-same _ _ _ _ s (λ k t below.
    let l = d.size in
    let i = z * (l * l) + k in
    cond-same (class l i == c) _ _ t (λ yes.
    let same = eqb-true _ _ yes in
    let plane = div-mul-add z (l * l) k below in
    let first = draw-listed l words c z i 0 lawful (omega arith) same plane in
    let second = draw-listed l words c z i 1 lawful (omega arith) same plane in
    ap (λ u. set t i (new_colour d.thresholds (step_of u) (listed l (draws (get_or words (c * l + z) []) (l * l)) i 1) (around l d.bonds t i) (get_or t i 0))) first
    ∙ ap (λ v. set t i (new_colour d.thresholds (step_of (site_draw l words i 0)) v (around l d.bonds t i) (get_or t i 0))) second))

-- the words of a plane are as before until the plane is reached
pub plane_drawn-before : (l c n j : ℕ) (words : List (List ℕ)) → c * l + n ≤ j → get_or (steps (plane_drawn l c) 0 n words) j [] ≡ get_or words j []
unfolding steps
plane_drawn-before l c zero j words h = refl
plane_drawn-before l c (suc n) j words h =
    let before = plane_drawn-before l c n j words (omega arith) in
    get_or-set_other (steps (plane_drawn l c) 0 n words) (c * l + (0 + n)) j _ [] (λ e. absurd (omega arith)) ∙ before

-- one plane more
pub plane-more : (d : Dynamics) (words : List (List ℕ)) (c z : ℕ) (s now new : List ℕ) (drawn w : List ℕ) → IsLawfulSize d.size
    → now ≡ steps (visit d (site_draw d.size words) c) 0 (z * (d.size * d.size)) s
    → w ≡ get_or words (c * d.size + z) []
    → drawn ≡ draws w (d.size * d.size)
    → new ≡ steps (visit d (listed d.size drawn) c) (z * (d.size * d.size)) (d.size * d.size) now
    → new ≡ steps (visit d (site_draw d.size words) c) 0 ((z + 1) * (d.size * d.size)) s
plane-more d words c z s now new drawn w lawful before wheel read swept =
    let plane = d.size * d.size in
    let range : (z + 1) * plane ≡ z * plane + plane = rw add-one (suc-mul z plane) in
    let P : List ℕ → Type 0 = λ u. new ≡ steps (visit d (listed d.size u) c) (z * plane) plane now in
    let Q : List ℕ → Type 0 = λ v. new ≡ steps (visit d (listed d.size (draws v plane)) c) (z * plane) plane now in
    subst Q wheel (subst P read swept)
    ∙ plane-visits d words c z now lawful
    ∙ ap (λ t. steps (visit d (site_draw d.size words) c) (z * plane) plane t) before
    ∙ sym (rw range (rw (zero-add (z * plane)) at (steps-add (visit d (site_draw d.size words) c) 0 (z * plane) plane s)))

-- one row more of a plane that begins at a site
pub row-more : (f : ℕ → List ℕ → List ℕ) (start y l : ℕ) (s now new : List ℕ) → now ≡ steps f start (y * l) s → new ≡ steps f (start + y * l) l now → new ≡ steps f start ((y + 1) * l) s
row-more f start y l s now new before swept =
    let range : (y + 1) * l ≡ y * l + l = rw add-one (suc-mul y l) in
    swept ∙ ap (steps f (start + y * l) l) before ∙ sym (steps-add f start (y * l) l s) ∙ ap (λ n. steps f start n s) (sym range)

-- both draws of a pair are among those of its plane
pub pair-draws : (l y k : ℕ) → IsLawfulSize l → y < l → k < l / 2 → 2 * (y * (l / 2) + k) + 1 < l * l
pair-draws l y k lawful row column =
    let place : y * (l / 2) + k < l / 2 * l = mul-add-lt y (l / 2) k l row column in
    let turned = mul_comm (l / 2) l in
    let even : l ≡ l / 2 * 2 = omega arith in
    let whole : l * l ≡ l * (l / 2) * 2 = ap (λ n. l * n) even ∙ sym (mul_assoc l (l / 2) 2) in
    omega arith

-- the draws of four pairs of a row are among those of its plane
pub four-draws : (l y k : ℕ) → IsLawfulSize l → y < l → k + 4 ≤ l / 2 → 2 * (y * (l / 2) + k) + 8 ≤ l * l
four-draws l y k lawful row within =
    let last = pair-draws l y (k + 3) lawful row (omega arith) in
    omega arith

-- a step is 0, 1 or 2
pub step-below : (u : ℕ) → u < 2 ^ 32 → step_of u < 3
step-below u few = omega arith
