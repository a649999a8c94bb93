-- The words of a plane of a colour and direction are kept one behind the other, in compact order.
use Rattle.std.proofs.Common.{◌≡◌, ℕ, ◌+◌, ◌*◌, ◌/◌, ◌<◌, ◌≤◌, ap, ◌∙◌, arith}
use Rattle.std.proofs.Math.Nat.{mul_comm}
use Rattle.std.proofs.lemmas.Nat.{mul-add-lt, mod_below, row_fits}
use Rattle.spin_model.specs.Lattice.{IsLawfulSize, volume, half_plane, half_volume, compact, from_compact, colour, x_of, y_of, z_of, place_in_plane}
use Rattle.coupling_set.specs.CouplingWords.{place_of}
use Rattle.coupling_set.specs.KeptWords.{free_words, head_words, kept_place, kept_count, plane_number}
use Rattle.coupling_set.proofs.Places.{place-in_plane}
use Rattle.coupling_set.proofs.KeptPlaces.{volume-planes, kept_place-in_plane}

-- a plane ends within the list
pub kept_plane-end : (l d c z : ℕ) → d < 3 → c < 2 → z < l
    → head_words + plane_number l d c z * (half_plane l + free_words) + half_plane l ≤ kept_count l
kept_plane-end l d c z direction chosen plane =
    let below = mul-add-lt (2 * d + c) l z 6 (omega arith) plane in
    let end = row_fits (plane_number l d c z) (half_plane l + free_words) (6 * l) (half_plane l + free_words) (omega arith) (omega arith) in
    omega arith

-- the words of the planes before
words-before : (l d c z k : ℕ) → IsLawfulSize l
    → d * volume l + c * half_volume l + z * half_plane l + k ≡ plane_number l d c z * half_plane l + k
words-before l d c z k lawful =
    let sites : d * volume l ≡ d * (2 * l * half_plane l) = ap (λ v. d * v) (volume-planes l lawful) in
    omega arith

-- where the word of the bond in direction d from a site is kept
pub kept_place-site : (l i d : ℕ) → IsLawfulSize l → i < volume l
    → kept_place l (place_of l i d) ≡ head_words + plane_number l d (colour l i) (z_of l i) * (half_plane l + free_words) + place_in_plane l i
unfolding compact
kept_place-site l i d lawful within =
    let row = mod_below (i / l) l (omega arith) in
    let column = mod_below i l (omega arith) in
    let bound = mul-add-lt (y_of l i) (l / 2) (x_of l i / 2) l row (omega arith) in
    let turned = mul_comm (l / 2) l in
    let before = words-before l d (colour l i) (z_of l i) (place_in_plane l i) lawful in
    let same : place_of l i d ≡ plane_number l d (colour l i) (z_of l i) * half_plane l + place_in_plane l i = omega (arith, before) in
    let place = ap (kept_place l) same ∙ kept_place-in_plane l (plane_number l d (colour l i) (z_of l i)) (place_in_plane l i) (omega arith) in
    omega (arith, place)

-- where the word of the bond in direction d from the site at place k of a plane is kept
pub kept_place-plane : (l c z k d : ℕ) → IsLawfulSize l → c < 2 → z < l → k < half_plane l
    → kept_place l (place_of l (from_compact l (c * half_volume l + z * half_plane l + k)) d)
    ≡ head_words + plane_number l d c z * (half_plane l + free_words) + k
kept_place-plane l c z k d lawful chosen plane within =
    let place = ap (kept_place l) (place-in_plane l c z k d lawful chosen plane within ∙ words-before l d c z k lawful)
    ∙ kept_place-in_plane l (plane_number l d c z) k within in
    omega (arith, place)
