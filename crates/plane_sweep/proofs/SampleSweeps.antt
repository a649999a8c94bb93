-- The half sweep of all planes of a colour is, in each sample, the half sweep of the definitions.
use Rattle.std.proofs.Common.{inl, inr, ◌≡◌, ◌≢◌, ℕ, zero, suc, ◌+◌, ◌-◌, ◌*◌, ◌/◌, ◌%◌, ◌<◌, ◌≤◌, Bool, List, [], length, get_or, refl, sym, ap, ◌∙◌, arith}
use Rattle.std.proofs.lemmas.Bool.{cases_eq}
use Rattle.std.proofs.lemmas.List.{length-map, length-set, get_or-map, get_or-set_same, get_or-set_other, same_lists, get_or_default}
use Rattle.std.proofs.lemmas.Nat.{div_below, mod_below, div-add-mod'}
use Rattle.coupling_set.specs.CouplingWords.{CouplingsView, bonds_of}
use Rattle.local_rule.specs.SiteBits.{equal_count}
use Rattle.spin_model.specs.Lattice.{IsLawfulSize, volume, half_plane}
use Rattle.spin_model.specs.SiteRule.{new_spin}
use Rattle.spin_model.specs.Steps.{steps}
use Rattle.spin_model.specs.Stream.{advanced, draw, draws}
use Rattle.spin_model.specs.Words.{is_set}
use Rattle.spin_model.proofs.Tables.{get_or-table}
use Rattle.scalar_rule.specs.Neighbours.{spin, aligned, satisfied}
use Rattle.scalar_rule.specs.Sweep.{Dynamics, Configuration, site_draw, visit, plane_drawn, half_sweep}
use Rattle.scalar_rule.proofs.HalfSweeps.{updated, length-visited, spin-visited_kept, spin-visited_updated}
use Rattle.scalar_rule.proofs.PlaneSweeps.{plane_drawn-before}
use Rattle.threshold_table.specs.Tables.{rule_of}
use Rattle.plane_sweep.specs.Packed.{plane_at, spins_of, generators_of}
use Rattle.plane_sweep.specs.Beginnings.{site_of}
use Rattle.plane_sweep.specs.Neighbourhood.{pulls}
use Rattle.plane_sweep.specs.PlaneSweep.{SweepsPlane}
use Rattle.plane_sweep.specs.declared.replica.Plane.{Plane}
use Rattle.threshold_table.specs.declared.rule_table.SlotRule.{SlotRule}
use Rattle.plane_sweep.proofs.Empties.{no_plane}
use Rattle.plane_sweep.proofs.PartSpins.{spins_of-planes}
use Rattle.plane_sweep.proofs.PlaneNeighbours.{site_of-at}
use Rattle.plane_sweep.proofs.PlaneSites.{site_of-below}
use Rattle.plane_sweep.proofs.SamplePulls.{AreOthers, spin-place, has-counts}
use Rattle.plane_sweep.proofs.SampleParts.{length-spins_of}

-- what a sample's half sweep depends on
abbrev pub dynamics_by : CouplingsView → SlotRule → ℕ → Dynamics
dynamics_by couplings rule b = record { size = couplings.size; rule = rule_of rule.kind; thresholds = rule.row.values; bonds = bonds_of couplings b }

-- a sample's spins and the generators
abbrev pub configuration_in : ℕ → ℕ → List Plane → Configuration
configuration_in l b planes = record { spins = spins_of l b planes; words = generators_of planes }

-- all planes before and after the half sweep of a colour
pub record HalfSwept (couplings : CouplingsView) (rule : SlotRule) (c : ℕ) (other planes new : List Plane) : Type 0 where
  pub before : length planes ≡ 2 * couplings.size
  pub after : length new ≡ 2 * couplings.size
  pub others : AreOthers couplings.size c planes other
  pub own : (z : ℕ) → z < couplings.size → SweepsPlane couplings other rule c z (plane_at planes (c * couplings.size + z)) (plane_at new (c * couplings.size + z))
  pub kept : (z : ℕ) → z < couplings.size → plane_at new ((1 - c) * couplings.size + z) ≡ plane_at planes ((1 - c) * couplings.size + z)

-- the generator of a plane
generator-at : (planes : List Plane) (k : ℕ) → k < length planes → get_or (generators_of planes) k [] ≡ (plane_at planes k).wheel
generator-at planes k within = get_or-map (λ (plane : Plane). plane.wheel) planes k no_plane [] within

-- the draw of a site is that of its place by its plane's generator
draw-at : (l c z j : ℕ) (planes : List Plane) → IsLawfulSize l → c < 2 → z < l → j < half_plane l → c * l + z < length planes
    → get_or (draws (plane_at planes (c * l + z)).wheel (half_plane l)) j 0 ≡ site_draw l (generators_of planes) (site_of l c z j)
draw-at l c z j planes lawful chosen plane within inside =
    let at = site_of-at l c z j lawful chosen plane within in
    get_or-table (draw (plane_at planes (c * l + z)).wheel) (half_plane l) j 0 within
    ∙ ap (λ w. draw w j) (sym (generator-at planes (c * l + z) inside))
    ∙ rw (at.of_colour, at.plane, at.place) refl

-- a site of the colour has its new spin
swept-bit : (couplings : CouplingsView) (rule : SlotRule) (b c z j : ℕ) (other planes new : List Plane) → IsLawfulSize couplings.size → b < 64 → c < 2 → z < couplings.size → j < half_plane couplings.size
    → HalfSwept couplings rule c other planes new → c * couplings.size + z < length planes
    → is_set (get_or (plane_at new (c * couplings.size + z)).words j 0) b
    ≡ updated (dynamics_by couplings rule b) (site_draw couplings.size (generators_of planes)) (spins_of couplings.size b planes) (site_of couplings.size c z j)
swept-bit couplings rule b c z j other planes new lawful below chosen plane within swept inside =
    let l = couplings.size in
    let half = l / 2 in
    let y = j / half in
    let k = j % half in
    let row : y < l = div_below j half l (omega arith) within in
    let column : k < half = mod_below j half (omega arith) in
    let parts : y * half + k ≡ j = div-add-mod' j half in
    let old = plane_at planes (c * l + z) in
    let word = get_or old.words j 0 in
    let here = spin-place l b c z j planes lawful chosen plane within in
    let same : is_set word b ≡ spin (spins_of l b planes) (site_of l c z (y * half + k)) = sym here ∙ ap (λ n. spin (spins_of l b planes) (site_of l c z n)) (sym parts) in
    let counts = has-counts couplings planes other b c z y k word lawful chosen plane row column swept.others same in
    let rule_at = rule_of rule.kind in
    let values = rule.row.values in
    let number = draw-at l c z j planes lawful chosen plane within inside in
    let site : site_of l c z (y * half + k) ≡ site_of l c z j = ap (site_of l c z) parts in
    ((swept.own z plane).words.done j 0 within).bits b below
    ∙ ap (λ a. new_spin rule_at values a (equal_count (pulls couplings other c z y k) word b) (get_or (draws old.wheel (half_plane l)) j 0) (is_set word b))
    (counts.aligned_count ∙ ap (aligned l (bonds_of couplings b) (spins_of l b planes)) site)
    ∙ ap (λ s. new_spin rule_at values (aligned l (bonds_of couplings b) (spins_of l b planes) (site_of l c z j)) s (get_or (draws old.wheel (half_plane l)) j 0) (is_set word b))
    (counts.satisfied_count ∙ ap (satisfied l (bonds_of couplings b) (spins_of l b planes)) site)
    ∙ ap (λ u. new_spin rule_at values (aligned l (bonds_of couplings b) (spins_of l b planes) (site_of l c z j)) (satisfied l (bonds_of couplings b) (spins_of l b planes) (site_of l c z j)) u (is_set word b)) number
    ∙ ap (new_spin rule_at values (aligned l (bonds_of couplings b) (spins_of l b planes) (site_of l c z j)) (satisfied l (bonds_of couplings b) (spins_of l b planes) (site_of l c z j)) (site_draw l (generators_of planes) (site_of l c z j))) (sym here)

-- the spins of a sample
half-spins : (couplings : CouplingsView) (rule : SlotRule) (b c : ℕ) (other planes new : List Plane) → IsLawfulSize couplings.size → b < 64 → c < 2 → HalfSwept couplings rule c other planes new
    → spins_of couplings.size b new ≡ (half_sweep (dynamics_by couplings rule b) c (configuration_in couplings.size b planes)).spins
half-spins couplings rule b c other planes new lawful below chosen swept =
    let l = couplings.size in
    let d = dynamics_by couplings rule b in
    let spins = spins_of l b planes in
    let draw_at = site_draw l (generators_of planes) in
    let sized = length-spins_of l b planes in
    let count = swept.before in
    spins_of-planes l b new (steps (visit d draw_at c) 0 (volume l) spins) lawful (length-visited d draw_at c (volume l) spins ∙ sized) (λ k j inside within.
    let a = k / l in
    let z = k % l in
    let colours : a < 2 = div_below k l 2 (omega arith) inside in
    let plane : z < l = mod_below k l (omega arith) in
    let parts : a * l + z ≡ k = div-add-mod' k l in
    let at = site_of-at l a z j lawful colours plane within in
    let i_below = site_of-below l a z j lawful in
    elim (cases_eq a c) [
      | inl same ↦
          let here : c * l + z ≡ k = ap (λ m. m * l + z) (sym same) ∙ parts in
          ap (λ n. is_set (get_or (plane_at new n).words j 0) b) (sym here)
          ∙ swept-bit couplings rule b c z j other planes new lawful below chosen plane within swept (omega arith)
          ∙ ap (λ m. updated d draw_at spins (site_of l m z j)) (sym same)
          ∙ sym (spin-visited_updated d draw_at c (volume l) (site_of l a z j) spins lawful sized (omega arith) (at.of_colour ∙ same) i_below)
      | inr apart ↦
          let turned : 1 - c ≡ a = omega arith in
          let there : (1 - c) * l + z ≡ k = ap (λ m. m * l + z) turned ∙ parts in
          ap (λ n. is_set (get_or (plane_at new n).words j 0) b) (sym there)
          ∙ ap (λ (p : Plane). is_set (get_or p.words j 0) b) (swept.kept z plane)
          ∙ ap (λ m. is_set (get_or (plane_at planes (m * l + z)).words j 0) b) turned
          ∙ sym (spin-place l b a z j planes lawful colours plane within)
          ∙ sym (spin-visited_kept d draw_at c (volume l) (site_of l a z j) spins (inl (λ e. apart (sym at.of_colour ∙ e))))
    ])

-- the generators of a colour, n planes moved on
length-drawn : (l c n : ℕ) (words : List (List ℕ)) → length (steps (plane_drawn l c) 0 n words) ≡ length words
unfolding steps
length-drawn l c zero words = refl
length-drawn l c (suc n) words = length-set (steps (plane_drawn l c) 0 n words) (c * l + (0 + n)) _ ∙ length-drawn l c n words

drawn-below : (l c n j : ℕ) (words : List (List ℕ)) → j < c * l → get_or (steps (plane_drawn l c) 0 n words) j [] ≡ get_or words j []
unfolding steps
drawn-below l c zero j words below = refl
drawn-below l c (suc n) j words below =
    get_or-set_other (steps (plane_drawn l c) 0 n words) (c * l + (0 + n)) j _ [] (λ e. absurd (omega arith)) ∙ drawn-below l c n j words below

drawn-at : (l c n z : ℕ) (words : List (List ℕ)) → z < n → c * l + n ≤ length words → get_or (steps (plane_drawn l c) 0 n words) (c * l + z) [] ≡ advanced (get_or words (c * l + z) []) (half_plane l)
unfolding steps
drawn-at l c zero z words below room = absurd (omega arith)
drawn-at l c (suc n) z words below room =
    let long = length-drawn l c n words in
    elim (cases_eq z n) [
      | inl last ↦
          let place : c * l + z ≡ c * l + (0 + n) = omega arith in
          ap (λ m. get_or (steps (plane_drawn l c) 0 (suc n) words) m []) place
          ∙ get_or-set_same (steps (plane_drawn l c) 0 n words) (c * l + (0 + n)) _ [] (omega arith)
          ∙ ap (λ w. advanced w (half_plane l)) (plane_drawn-before l c n (c * l + (0 + n)) words (omega arith))
          ∙ ap (λ m. advanced (get_or words m []) (half_plane l)) (sym place)
      | inr apart ↦
          get_or-set_other (steps (plane_drawn l c) 0 n words) (c * l + (0 + n)) (c * l + z) _ [] (λ e. absurd (omega arith))
          ∙ drawn-at l c n z words (omega arith) (omega arith)
    ]

colour-room : (l c : ℕ) → c < 2 → c * l + l ≤ 2 * l
colour-room l zero chosen = omega arith
colour-room l (suc zero) chosen = omega arith
colour-room l (suc (suc n)) chosen = absurd (omega arith)

-- those of the other colour stay
kept-words : (l c a z k : ℕ) (words : List (List ℕ)) → c < 2 → a < 2 → z < l → a * l + z ≡ k → a ≢ c → get_or (steps (plane_drawn l c) 0 l words) k [] ≡ get_or words k []
kept-words l zero zero z k words chosen other plane parts apart = absurd (apart refl)
kept-words l zero (suc zero) z k words chosen other plane parts apart = plane_drawn-before l 0 l k words (omega arith)
kept-words l (suc zero) zero z k words chosen other plane parts apart = drawn-below l 1 l k words (omega arith)
kept-words l (suc zero) (suc zero) z k words chosen other plane parts apart = absurd (apart refl)
kept-words l (suc (suc c)) a z k words chosen other plane parts apart = absurd (omega arith)
kept-words l zero (suc (suc a)) z k words chosen other plane parts apart = absurd (omega arith)
kept-words l (suc zero) (suc (suc a)) z k words chosen other plane parts apart = absurd (omega arith)

half-generators : (couplings : CouplingsView) (rule : SlotRule) (c : ℕ) (other planes new : List Plane) → IsLawfulSize couplings.size → c < 2 → HalfSwept couplings rule c other planes new
    → generators_of new ≡ steps (plane_drawn couplings.size c) 0 couplings.size (generators_of planes)
half-generators couplings rule c other planes new lawful chosen swept =
    let l = couplings.size in
    let words = generators_of planes in
    let before = swept.before in
    let after = swept.after in
    let long : length words ≡ 2 * l = length-map planes _ ∙ before in
    let drawn = length-drawn l c l words in
    let new_long : length (generators_of new) ≡ 2 * l = length-map new _ ∙ after in
    same_lists (generators_of new) (steps (plane_drawn l c) 0 l words) (new_long ∙ sym long ∙ sym drawn) (λ k d within.
    let a = k / l in
    let z = k % l in
    let colours : a < 2 = div_below k l 2 (omega arith) (omega arith) in
    let plane : z < l = mod_below k l (omega arith) in
    let parts : a * l + z ≡ k = div-add-mod' k l in
    get_or_default (generators_of new) k d [] within
    ∙ generator-at new k (omega arith)
    ∙ elim (cases_eq a c) [
      | inl same ↦
          let here : c * l + z ≡ k = ap (λ m. m * l + z) (sym same) ∙ parts in
          let room : c * l + l ≤ 2 * l = colour-room l c chosen in
          ap (λ n. (plane_at new n).wheel) (sym here)
          ∙ (swept.own z plane).generator
          ∙ ap (λ w. advanced w (half_plane l)) (sym (generator-at planes (c * l + z) (omega arith)))
          ∙ sym (drawn-at l c l z words plane (omega arith))
          ∙ ap (λ n. get_or (steps (plane_drawn l c) 0 l words) n []) here
      | inr apart ↦
          let turned : 1 - c ≡ a = omega arith in
          let there : (1 - c) * l + z ≡ k = ap (λ m. m * l + z) turned ∙ parts in
          ap (λ n. (plane_at new n).wheel) (sym there)
          ∙ ap (λ (p : Plane). p.wheel) (swept.kept z plane)
          ∙ ap (λ n. (plane_at planes n).wheel) there
          ∙ sym (generator-at planes k (omega arith))
          ∙ sym (kept-words l c a z k words chosen colours plane parts apart)
    ]
    ∙ get_or_default (steps (plane_drawn l c) 0 l words) k [] d (omega arith))

pub half-swept : (couplings : CouplingsView) (rule : SlotRule) (b c : ℕ) (other planes new : List Plane) → IsLawfulSize couplings.size → b < 64 → c < 2 → HalfSwept couplings rule c other planes new
    → configuration_in couplings.size b new ≡ half_sweep (dynamics_by couplings rule b) c (configuration_in couplings.size b planes)
half-swept couplings rule b c other planes new lawful below chosen swept =
    let spins = half-spins couplings rule b c other planes new lawful below chosen swept in
    let words = half-generators couplings rule c other planes new lawful chosen swept in
    ap (λ (xs : List Bool). record { spins = xs; words = generators_of new }) spins
    ∙ ap (λ (ws : List (List ℕ)). record { spins = (half_sweep (dynamics_by couplings rule b) c (configuration_in couplings.size b planes)).spins; words = ws }) words
