-- Each bond has a word of its own.
use Rattle.std.proofs.Common.{◌≡◌, ◌≢◌, ℕ, ◌+◌, ◌-◌, ◌*◌, ◌/◌, ◌%◌, ◌<◌, ◌≤◌, ap, sym, ◌∙◌, arith}
use Rattle.std.proofs.lemmas.Nat.{mul-lt, div-mul-add, mod-mul-add, div-add-mod', mod_below, div_below}
use Rattle.spin_model.specs.Lattice.{IsLawfulSize, volume, bond_count, half_plane, half_volume, compact, from_compact}
use Rattle.spin_model.proofs.CompactOrder.{place_at-below, compact-below, from_compact-compact, compact-from_compact}
use Rattle.coupling_set.specs.CouplingWords.{place_of}

-- the site and the direction of a word
place-direction : (l i d : ℕ) → IsLawfulSize l → i < volume l → place_of l i d / volume l ≡ d
place-direction l i d lawful within = div-mul-add d (volume l) (compact l i) (compact-below l i lawful within)

place-site : (l i d : ℕ) → IsLawfulSize l → i < volume l → from_compact l (place_of l i d % volume l) ≡ i
place-site l i d lawful within =
    ap (from_compact l) (mod-mul-add d (volume l) (compact l i) (compact-below l i lawful within))
    ∙ from_compact-compact l i lawful within

-- bonds with one place are one bond
same-bond : (l m n : ℕ) → IsLawfulSize l → m < bond_count l → n < bond_count l
    → place_of l (m / 3) (m % 3) ≡ place_of l (n / 3) (n % 3) → m ≡ n
same-bond l m n lawful m_within n_within same =
    let m_site : m / 3 < volume l = omega arith in
    let n_site : n / 3 < volume l = omega arith in
    let direction : m % 3 ≡ n % 3 = sym (place-direction l (m / 3) (m % 3) lawful m_site) ∙ ap (λ p. p / volume l) same ∙ place-direction l (n / 3) (n % 3) lawful n_site in
    let site : m / 3 ≡ n / 3 = sym (place-site l (m / 3) (m % 3) lawful m_site) ∙ ap (λ p. from_compact l (p % volume l)) same ∙ place-site l (n / 3) (n % 3) lawful n_site in
    omega arith

pub places-apart : (l m n : ℕ) → IsLawfulSize l → m < bond_count l → n < bond_count l → m ≢ n
    → place_of l (m / 3) (m % 3) ≢ place_of l (n / 3) (n % 3)
places-apart l m n lawful m_within n_within other = λ same. other (same-bond l m n lawful m_within n_within same)

-- the places of a plane of one colour
pub half_plane-positive : (l : ℕ) → IsLawfulSize l → 0 < half_plane l
half_plane-positive l lawful = mul-lt 0 0 l (l / 2) (omega arith) (omega arith)

pub in_plane-below : (l c z k : ℕ) → IsLawfulSize l → c < 2 → z < l → k < half_plane l → c * half_volume l + z * half_plane l + k < volume l
in_plane-below l c z k lawful chosen plane within =
    let row : k / (l / 2) < l = div_below k (l / 2) l (omega arith) within in
    let column : k % (l / 2) < l / 2 = mod_below k (l / 2) (omega arith) in
    let parts = div-add-mod' k (l / 2) in
    let below = place_at-below l c z (k / (l / 2)) (k % (l / 2)) lawful chosen plane row column in
    omega arith

pub plane-within : (l c z : ℕ) → IsLawfulSize l → c < 2 → z < l → c * half_volume l + z * half_plane l + half_plane l ≤ volume l
plane-within l c z lawful chosen plane =
    let positive = half_plane-positive l lawful in
    let last = in_plane-below l c z (half_plane l - 1) lawful chosen plane (omega arith) in
    omega arith

-- the place of the bond in direction d from the site at place k of a plane
pub place-in_plane : (l c z k d : ℕ) → IsLawfulSize l → c < 2 → z < l → k < half_plane l
    → place_of l (from_compact l (c * half_volume l + z * half_plane l + k)) d ≡ d * volume l + c * half_volume l + z * half_plane l + k
place-in_plane l c z k d lawful chosen plane within =
    let place = compact-from_compact l (c * half_volume l + z * half_plane l + k) lawful (in_plane-below l c z k lawful chosen plane within) in
    omega arith
