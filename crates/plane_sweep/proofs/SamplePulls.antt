-- The six words of a site are, in each sample, the pulls of its six neighbours.
use Rattle.std.proofs.Common.{◌≡◌, ℕ, ◌+◌, ◌-◌, ◌*◌, ◌/◌, ◌%◌, ◌<◌, Bool, true, false, bit_xor, List, get_or, refl, sym, ap, ◌∙◌, arith}
use Rattle.std.proofs.lemmas.Nat.{mod_below}
use Rattle.std.specs.Prelude.{count_by}
use Rattle.coupling_set.specs.CouplingWords.{CouplingsView, bond_word, bonds_of}
use Rattle.local_rule.specs.SiteBits.{equal_count, set_count, site_bits}
use Rattle.multispin_word.specs.Planes.{differs}
use Rattle.multispin_word.proofs.Bits.{is_set-xor}
use Rattle.scalar_rule.specs.Neighbours.{spin, agree, coupled, aligned, satisfied}
use Rattle.spin_model.specs.Lattice.{IsLawfulSize, volume, bond, forward, backward, half_plane, next, previous}
use Rattle.spin_model.specs.Words.{is_set}
use Rattle.spin_model.proofs.Tables.{get_or-table}
use Rattle.spin_model.proofs.CompactOrder.{in_plane}
use Rattle.plane_sweep.specs.Packed.{plane_at, word_at, spins_of}
use Rattle.plane_sweep.specs.Beginnings.{site_of}
use Rattle.plane_sweep.specs.Neighbourhood.{pulls}
use Rattle.plane_sweep.specs.declared.replica.Plane.{Plane}
use Rattle.plane_sweep.proofs.PlaneSites.{site_of-below}
use Rattle.plane_sweep.proofs.PlaneNeighbours.{right-neighbour, left-neighbour, up-neighbour, down-neighbour, above-neighbour, below-neighbour, site_of-at}
use Rattle.plane_sweep.proofs.SixWords.{equal-agreeing, right-within, left-within}

-- the planes of the other colour among all planes
abbrev pub AreOthers : ℕ → ℕ → List Plane → List Plane → Type 0
AreOthers l c planes other = (z : ℕ) → z < l → plane_at other z ≡ plane_at planes ((1 - c) * l + z)

-- the spin at a place of a plane
pub spin-place : (l b c z j : ℕ) (planes : List Plane) → IsLawfulSize l → c < 2 → z < l → j < half_plane l
    → spin (spins_of l b planes) (site_of l c z j) ≡ is_set (get_or (plane_at planes (c * l + z)).words j 0) b
unfolding spins_of
spin-place l b c z j planes lawful chosen plane within =
    let at = site_of-at l c z j lawful chosen plane within in
    let i = site_of l c z j in
    get_or-table (λ n. is_set (word_at l planes n) b) (volume l) i false (site_of-below l c z j lawful)
    ∙ rw (at.of_colour, at.plane, at.place) refl

coupled-differs : (n s : Bool) → differs s n ≡ coupled n s
coupled-differs true true = refl
coupled-differs true false = refl
coupled-differs false true = refl
coupled-differs false false = refl

-- a word and a bond's word, exclusive or, is J times the spin
pull-word : (couplings : CouplingsView) (b i d w : ℕ) (s : Bool) → d < 3 → s ≡ is_set w b → is_set (bit_xor w (bond_word couplings i d)) b ≡ coupled (bonds_of couplings b (bond i d)) s
pull-word couplings b i d w s direction same =
    let site : (3 * i + d) / 3 ≡ i = omega arith in
    let way : (3 * i + d) % 3 ≡ d = omega arith in
    is_set-xor w (bond_word couplings i d) b
    ∙ ap (λ t. differs t (is_set (bond_word couplings i d) b)) (sym same)
    ∙ coupled-differs (is_set (bond_word couplings i d) b) s
    ∙ sym (ap (λ n. coupled (is_set (bond_word couplings n ((3 * i + d) % 3)) b) s) site ∙ ap (λ n. coupled (is_set (bond_word couplings i n) b) s) way)

-- a neighbour ahead: the bond is the site's own
ahead-word : (couplings : CouplingsView) (planes : List Plane) (other : List Plane) (b c z j d i : ℕ) → IsLawfulSize couplings.size → c < 2 → z < couplings.size → j < half_plane couplings.size → d < 3
    → AreOthers couplings.size c planes other → forward couplings.size i d ≡ site_of couplings.size (1 - c) z j
    → is_set (bit_xor (get_or (plane_at other z).words j 0) (bond_word couplings i d)) b
    ≡ coupled (bonds_of couplings b (bond i d)) (spin (spins_of couplings.size b planes) (forward couplings.size i d))
ahead-word couplings planes other b c z j d i lawful chosen plane within direction others at =
    let l = couplings.size in
    pull-word couplings b i d (get_or (plane_at other z).words j 0) (spin (spins_of l b planes) (forward l i d)) direction
    (ap (spin (spins_of l b planes)) at
    ∙ spin-place l b (1 - c) z j planes lawful (omega arith) plane within
    ∙ ap (λ (p : Plane). is_set (get_or p.words j 0) b) (sym (others z plane)))

-- a neighbour behind: the bond is the neighbour's own
behind-word : (couplings : CouplingsView) (planes : List Plane) (other : List Plane) (b c z j d i : ℕ) → IsLawfulSize couplings.size → c < 2 → z < couplings.size → j < half_plane couplings.size → d < 3
    → AreOthers couplings.size c planes other → backward couplings.size i d ≡ site_of couplings.size (1 - c) z j
    → is_set (bit_xor (get_or (plane_at other z).words j 0) (bond_word couplings (site_of couplings.size (1 - c) z j) d)) b
    ≡ coupled (bonds_of couplings b (bond (backward couplings.size i d) d)) (spin (spins_of couplings.size b planes) (backward couplings.size i d))
behind-word couplings planes other b c z j d i lawful chosen plane within direction others at =
    let l = couplings.size in
    let n = site_of l (1 - c) z j in
    pull-word couplings b n d (get_or (plane_at other z).words j 0) (spin (spins_of l b planes) n) direction
    (spin-place l b (1 - c) z j planes lawful (omega arith) plane within ∙ ap (λ (p : Plane). is_set (get_or p.words j 0) b) (sym (others z plane)))
    ∙ ap (λ m. coupled (bonds_of couplings b (bond m d)) (spin (spins_of l b planes) m)) (sym at)

-- the counts at a site
pub record HasCounts (couplings : CouplingsView) (planes other : List Plane) (b c z y k word : ℕ) : Type 0 where
  pub aligned_count : set_count (pulls couplings other c z y k) b ≡ aligned couplings.size (bonds_of couplings b) (spins_of couplings.size b planes) (site_of couplings.size c z (y * (couplings.size / 2) + k))
  pub satisfied_count : equal_count (pulls couplings other c z y k) word b ≡ satisfied couplings.size (bonds_of couplings b) (spins_of couplings.size b planes) (site_of couplings.size c z (y * (couplings.size / 2) + k))

pub has-counts : (couplings : CouplingsView) (planes other : List Plane) (b c z y k word : ℕ) → IsLawfulSize couplings.size → c < 2 → z < couplings.size → y < couplings.size → k < couplings.size / 2
    → AreOthers couplings.size c planes other → is_set word b ≡ spin (spins_of couplings.size b planes) (site_of couplings.size c z (y * (couplings.size / 2) + k))
    → HasCounts couplings planes other b c z y k word
unfolding pulls aligned satisfied
has-counts couplings planes other b c z y k word lawful chosen plane row column others here =
    let l = couplings.size in
    let p = (c + y + z) % 2 in
    let i = site_of l c z (y * (l / 2) + k) in
    let on : next l y < l = mod_below (y + 1) l (omega arith) in
    let back : previous l y < l = mod_below (y + l - 1) l (omega arith) in
    let on_z : next l z < l = mod_below (z + 1) l (omega arith) in
    let back_z : previous l z < l = mod_below (z + l - 1) l (omega arith) in
    let e₀ = ahead-word couplings planes other b c z _ 0 i lawful chosen plane (right-within l p y k lawful row column) (omega arith) others (right-neighbour l c z y k lawful chosen plane row column) in
    let e₁ = ahead-word couplings planes other b c z _ 1 i lawful chosen plane (in_plane l (next l y) k on column) (omega arith) others (up-neighbour l c z y k lawful chosen plane row column) in
    let e₂ = ahead-word couplings planes other b c (next l z) _ 2 i lawful chosen on_z (in_plane l y k row column) (omega arith) others (above-neighbour l c z y k lawful chosen plane row column) in
    let e₃ = behind-word couplings planes other b c z _ 0 i lawful chosen plane (left-within l p y k lawful row column) (omega arith) others (left-neighbour l c z y k lawful chosen plane row column) in
    let e₄ = behind-word couplings planes other b c z _ 1 i lawful chosen plane (in_plane l (previous l y) k back column) (omega arith) others (down-neighbour l c z y k lawful chosen plane row column) in
    let e₅ = behind-word couplings planes other b c (previous l z) _ 2 i lawful chosen back_z (in_plane l y k row column) (omega arith) others (below-neighbour l c z y k lawful chosen plane row column) in
    let six = pulls couplings other c z y k in
    let agreeing : count_by (λ bit. agree bit (is_set word b)) (site_bits six b) ≡ satisfied l (bonds_of couplings b) (spins_of l b planes) i = rw (e₀, e₁, e₂, e₃, e₄, e₅, here) refl in
    record {
      aligned_count = rw (e₀, e₁, e₂, e₃, e₄, e₅) refl;
      satisfied_count = equal-agreeing six word b ∙ agreeing;
    }
