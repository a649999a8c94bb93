-- A plane swept from the list of its draws is swept by the rule, and the planes of a colour make up its half sweep.
use Rattle.std.proofs.Common.{◌≡◌, ℕ, zero, suc, ◌+◌, ◌*◌, ◌≤◌, Bool, ◌==◌, List, [], ◌++◌, length, get_or, set, take, drop, refl, sym, ap, ◌∙◌, subst, arith, zero-add, add-one}
use Rattle.std.proofs.lemmas.Bool.{eqb-true}
use Rattle.std.proofs.lemmas.Nat.{div-mul-add}
use Rattle.std.proofs.lemmas.List.{take_all, drop_all, append-nil, get_or-set_other}
use native.Mathlib.Nat.{suc-mul}
use Rattle.spin_model.specs.Lattice.{z_of, colour, place_in_plane, half_plane, IsLawfulSize}
use Rattle.spin_model.specs.SiteRule.{new_spin}
use Rattle.spin_model.specs.Steps.{steps}
use Rattle.spin_model.specs.Stream.{draw, draws}
use Rattle.spin_model.proofs.Stepping.{steps-same, steps-add, cond-same}
use Rattle.spin_model.proofs.Tables.{get_or-table}
use Rattle.spin_model.proofs.CompactOrder.{place_in_plane-below}
use Rattle.scalar_rule.specs.Neighbours.{spin, aligned, satisfied}
use Rattle.scalar_rule.specs.Sweep.{Dynamics, Configuration, visit, site_draw, plane_drawn}
use Rattle.scalar_rule.specs.declared.plain_copy.PlainCopy.{PlainCopy}
use Rattle.scalar_rule.specs.Replica.{configuration_of}

-- the draw of a site of colour c in plane z, read from the list of the plane's draws
draw-listed : (l : ℕ) (words : List (List ℕ)) (c z i : ℕ) → IsLawfulSize l → colour l i ≡ c → z_of l i ≡ z
    → get_or (draws (get_or words (c * l + z) []) (half_plane l)) (place_in_plane l i) 0 ≡ site_draw l words i
draw-listed l words c z i lawful same plane =
    let listed = get_or-table (draw (get_or words (c * l + z) [])) (half_plane l) (place_in_plane l i) 0 (place_in_plane-below l i lawful) in
    listed ∙ ap (λ w. draw (get_or words w []) (place_in_plane l i)) (sym (ap (λ k. k * l + z_of l i) same ∙ ap (λ k. c * l + k) plane))

-- the sites of plane z
plane-visits : (d : Dynamics) (words : List (List ℕ)) (c z : ℕ) (spins : List Bool) → IsLawfulSize d.size
    → steps (visit d (λ i. get_or (draws (get_or words (c * d.size + z) []) (half_plane d.size)) (place_in_plane d.size i) 0) c) (z * (d.size * d.size)) (d.size * d.size) spins
    ≡ steps (visit d (site_draw d.size words) c) (z * (d.size * d.size)) (d.size * d.size) spins
unfolding visit
plane-visits d words c z spins lawful = steps-same _ _ _ _ spins (λ k t below.
    let l = d.size in
    let i = z * (l * l) + k in
    cond-same (colour l i == c) _ _ t (λ yes.
    ap (λ u. set t i (new_spin d.rule d.thresholds (aligned l d.bonds t i) (satisfied l d.bonds t i) u (spin t i)))
    (draw-listed l words c z i lawful (eqb-true _ _ yes) (div-mul-add z (l * l) k below))))

-- what is written over a list of the same length is the list then
pub written_over : {A : Type 0} (xs ys : List A) → length ys ≡ length xs → take (length xs) (ys ++ drop (length ys) xs) ≡ ys
written_over xs ys same = rw (drop_all (length ys) xs (omega arith), append-nil) (take_all (length xs) ys (omega arith))

-- the words of a plane are as before until the plane is reached
pub plane_drawn-before : (l c n j : ℕ) (words : List (List ℕ)) → c * l + n ≤ j → get_or (steps (plane_drawn l c) 0 n words) j [] ≡ get_or words j []
unfolding steps
plane_drawn-before l c zero j words h = refl
plane_drawn-before l c (suc n) j words h =
    let before = plane_drawn-before l c n j words (omega arith) in
    get_or-set_other (steps (plane_drawn l c) 0 n words) (c * l + (0 + n)) j _ [] (λ e. absurd (omega arith)) ∙ before

-- one plane more
pub visits-more : (d : Dynamics) (words : List (List ℕ)) (c z : ℕ) (spins now new : List Bool) (drawn w : List ℕ) → IsLawfulSize d.size
    → now ≡ steps (visit d (site_draw d.size words) c) 0 (z * (d.size * d.size)) spins
    → w ≡ get_or words (c * d.size + z) []
    → drawn ≡ draws w (half_plane d.size)
    → new ≡ steps (visit d (λ i. get_or drawn (place_in_plane d.size i) 0) c) (z * (d.size * d.size)) (d.size * d.size) now
    → new ≡ steps (visit d (site_draw d.size words) c) 0 ((z + 1) * (d.size * d.size)) spins
visits-more d words c z spins now new drawn w lawful before wheel listed swept =
    let plane = d.size * d.size in
    let range : (z + 1) * plane ≡ z * plane + plane = rw add-one (suc-mul z plane) in
    let P : List ℕ → Type 0 = λ u. new ≡ steps (visit d (λ i. get_or u (place_in_plane d.size i) 0) c) (z * plane) plane now in
    let Q : List ℕ → Type 0 = λ v. new ≡ steps (visit d (λ i. get_or (draws v (half_plane d.size)) (place_in_plane d.size i) 0) c) (z * plane) plane now in
    subst Q wheel (subst P listed swept)
    ∙ plane-visits d words c z now lawful
    ∙ ap (λ s. steps (visit d (site_draw d.size words) c) (z * plane) plane s) before
    ∙ sym (rw range (rw (zero-add (z * plane)) at (steps-add (visit d (site_draw d.size words) c) 0 (z * plane) plane spins)))

-- a replica by its spins and its words
pub configuration_is : (replica : PlainCopy) (s : Configuration) → replica.spins ≡ s.spins → replica.wheels ≡ s.words → configuration_of replica ≡ s
configuration_is replica s spins words =
    ap (λ (xs : List Bool). record { spins = xs; words = replica.wheels }) spins ∙ ap (λ (ws : List (List ℕ)). record { spins = s.spins; words = ws }) words
