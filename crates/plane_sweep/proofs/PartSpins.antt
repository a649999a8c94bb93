-- The spins of one sample of a packed replica, plane by plane.
use Rattle.std.proofs.Common.{◌≡◌, ℕ, ◌+◌, ◌*◌, ◌/◌, ◌%◌, ◌<◌, Bool, false, List, All, length, get_or, sym, ap, ◌∙◌, subst, arith}
use Rattle.std.proofs.lemmas.List.{get_or_read}
use Rattle.spin_model.specs.Lattice.{IsLawfulSize, volume, colour, z_of, place_in_plane, half_plane}
use Rattle.spin_model.specs.Words.{is_set}
use Rattle.spin_model.proofs.Sites.{z_of-below}
use Rattle.spin_model.proofs.Tables.{table-same, table-of_items}
use Rattle.spin_model.proofs.CompactOrder.{place_in_plane-below}
use Rattle.scalar_rule.specs.Neighbours.{spin}
use Rattle.plane_sweep.specs.Packed.{word_at, spins_of, plane_at, FitsPlane}
use Rattle.plane_sweep.specs.Beginnings.{site_of}
use Rattle.plane_sweep.specs.declared.replica.Plane.{Plane}
use Rattle.plane_sweep.proofs.PlaneSites.{plane-below, plane-colour, plane-z, site_of-place}

-- what holds at each place of each plane holds at each site
pub at_sites : (l : ℕ) (P : ℕ → ℕ → ℕ → Type 0) → IsLawfulSize l
    → ((k j : ℕ) → k < 2 * l → j < half_plane l → P k j (site_of l (k / l) (k % l) j))
    → (i : ℕ) → i < volume l → P (colour l i * l + z_of l i) (place_in_plane l i) i
at_sites l P lawful holds i within =
    let z = z_of-below l i (omega arith) within in
    let k = colour l i * l + z_of l i in
    let site : site_of l (k / l) (k % l) (place_in_plane l i) ≡ i =
    ap (λ c. site_of l c (k % l) (place_in_plane l i)) (plane-colour l (colour l i) (z_of l i) z)
    ∙ ap (λ p. site_of l (colour l i) p (place_in_plane l i)) (plane-z l (colour l i) (z_of l i) z)
    ∙ site_of-place l i lawful within in
    let Q : ℕ → Type 0 = λ s. P k (place_in_plane l i) s in
    subst Q site (holds k (place_in_plane l i) (plane-below l i lawful within) (place_in_plane-below l i lawful))

-- the spins are these where each plane has them
pub spins_of-planes : (l b : ℕ) (planes : List Plane) (spins : List Bool) → IsLawfulSize l → length spins ≡ volume l
    → ((k j : ℕ) → k < 2 * l → j < half_plane l → is_set (get_or (plane_at planes k).words j 0) b ≡ spin spins (site_of l (k / l) (k % l) j))
    → spins_of l b planes ≡ spins
unfolding spins_of
spins_of-planes l b planes spins lawful sized same =
    let P : ℕ → ℕ → ℕ → Type 0 = λ k j i. is_set (get_or (plane_at planes k).words j 0) b ≡ spin spins i in
    let at = at_sites l P lawful same in
    sym (table-of_items _ (volume l) false spins sized (λ i within. sym (at i within)))

-- two replicas whose words have the same bit of a sample have its spins
pub spins_of-same : (l b : ℕ) (old new : List Plane) → IsLawfulSize l
    → ((k j : ℕ) → k < 2 * l → j < half_plane l → is_set (get_or (plane_at new k).words j 0) b ≡ is_set (get_or (plane_at old k).words j 0) b)
    → spins_of l b new ≡ spins_of l b old
unfolding spins_of
spins_of-same l b old new lawful same =
    let P : ℕ → ℕ → ℕ → Type 0 = λ k j i. is_set (get_or (plane_at new k).words j 0) b ≡ is_set (get_or (plane_at old k).words j 0) b in
    table-same _ _ (volume l) (λ i within. at_sites l P lawful same i within)

-- a plane that was read from a list of planes that fit
pub read-plane : (l k : ℕ) (planes : List Plane) (plane : Plane) → All (FitsPlane l) planes → k < length planes → plane ≡ get_or planes k plane → FitsPlane l plane
read-plane l k planes plane fit within read =
    let P : Plane → Type 0 = λ p. FitsPlane l p in
    subst P (sym read) (fit k plane within)

-- the word of a site, read by its plane and its place there
pub read-word : (l i k j word : ℕ) (planes : List Plane) (plane : Plane) → IsLawfulSize l → All (FitsPlane l) planes → k < length planes
    → k ≡ colour l i * l + z_of l i → j ≡ place_in_plane l i → plane ≡ get_or planes k plane → word ≡ get_or plane.words j word → word ≡ word_at l planes i
read-word l i k j word planes plane lawful fit within chosen place read found =
    let sized = (read-plane l k planes plane fit within read).sized in
    let room = place_in_plane-below l i lawful in
    let at : plane ≡ plane_at planes k = get_or_read planes k plane within read _ in
    get_or_read plane.words j word (omega arith) found 0
    ∙ ap (λ (p : Plane). get_or p.words j 0) at
    ∙ ap (λ n. get_or (plane_at planes n).words j 0) chosen
    ∙ ap (λ n. get_or (plane_at planes (colour l i * l + z_of l i)).words n 0) place
