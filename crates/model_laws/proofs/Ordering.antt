-- A half sweep over any list that names each site of the colour once.
use Rattle.std.proofs.Common.{inl, inr, ◌≡◌, ◌≢◌, ℕ, ◌+◌, ◌*◌, ◌<◌, Bool, false, cond, ◌==◌, List, [], ◌∷◌, length, refl, ap, sym, ◌∙◌, arith}
use Rattle.std.specs.List.{count_by}
use Rattle.std.proofs.lemmas.Bool.{cases_eq, eq-eqb, ne_eqb}
use Rattle.std.proofs.lemmas.List.{get_or-set_same, length-set, ext_get_or}
use Rattle.std.proofs.lemmas.List.Sums.{sum_by-cons}
use Rattle.spin_model.specs.Lattice.{IsLawfulSize, volume, colour, z_of, half_plane, place_in_plane, compact, from_compact, forward, backward}
use Rattle.spin_model.specs.SiteRule.{new_spin}
use Rattle.spin_model.proofs.Colours.{colour-forward, colour-backward, differs}
use Rattle.spin_model.proofs.CompactOrder.{from_compact-compact}
use Rattle.scalar_rule.specs.Neighbours.{spin, aligned, satisfied}
use Rattle.scalar_rule.specs.Sweep.{Dynamics, visit}
use Rattle.scalar_rule.proofs.HalfSweeps.{updated, AgreeAround, updated-same, length-visited, spin-visited_kept, spin-visited_updated, visit-here, visit-not, visit-elsewhere}
use Rattle.model_laws.specs.Order.{half_swept, swept_in_order, NamesEachOnce}

-- ---- one visit

length-visit : (d : Dynamics) (f : ℕ → ℕ) (c i : ℕ) (spins : List Bool) → length (visit d f c i spins) ≡ length spins
length-visit d f c i spins = elim (cases_eq (colour d.size i) c) [
  | inl same ↦ ap length (visit-here d f c i spins same) ∙ length-set spins i _
  | inr other ↦ ap length (visit-not d f c i spins other)
]

-- another site, and one of the other colour, are as they were
spin-uncoloured : (d : Dynamics) (f : ℕ → ℕ) (c i k : ℕ) (spins : List Bool) → colour d.size k ≢ c → spin (visit d f c i spins) k ≡ spin spins k
spin-uncoloured d f c i k spins other = elim (cases_eq k i) [
  | inl here ↦ ap (λ xs. spin xs k) (visit-not d f c i spins (λ same. other (ap (colour d.size) here ∙ same)))
  | inr apart ↦ visit-elsewhere d f c i k spins apart
]

-- so what a site of the colour sees is as it was, if another was visited
around : (d : Dynamics) (f : ℕ → ℕ) (c i k : ℕ) (spins : List Bool) → IsLawfulSize d.size → k < volume d.size → colour d.size k ≡ c → k ≢ i
    → AgreeAround d.size (visit d f c i spins) spins k
around d f c i k spins lawful within same apart =
    let ahead : (e : ℕ) → spin (visit d f c i spins) (forward d.size k e) ≡ spin spins (forward d.size k e) =
    λ e. spin-uncoloured d f c i (forward d.size k e) spins (λ z. differs _ _ (colour-forward d.size k e lawful within) (z ∙ sym same)) in
    let behind : (e : ℕ) → spin (visit d f c i spins) (backward d.size k e) ≡ spin spins (backward d.size k e) =
    λ e. spin-uncoloured d f c i (backward d.size k e) spins (λ z. differs _ _ (colour-backward d.size k e lawful within) (z ∙ sym same)) in
    record {
      ahead_x = ahead 0;
      ahead_y = ahead 1;
      ahead_z = ahead 2;
      behind_x = behind 0;
      behind_y = behind 1;
      behind_z = behind 2;
      here = visit-elsewhere d f c i k spins apart;
    }

-- ---- a list of them

-- 1 at the site, else 0
abbrev hit : ℕ → ℕ → ℕ
hit i k = cond (i == k) 1 0

hit-here : (i k : ℕ) → i ≡ k → hit i k ≡ 1
hit-here i k here = ap (λ b. cond b 1 0) (eq-eqb i k here)

hit-apart : (i k : ℕ) → i ≢ k → hit i k ≡ 0
hit-apart i k apart = ap (λ b. cond b 1 0) (ne_eqb i k apart)

named-more : (k i : ℕ) (sites : List ℕ) → count_by (λ j. j == k) (i ∷ sites) ≡ hit i k + count_by (λ j. j == k) sites
named-more k i sites = sum_by-cons (λ j. hit j k) i sites

length-order : (d : Dynamics) (f : ℕ → ℕ) (c : ℕ) (sites : List ℕ) (spins : List Bool) → length (swept_in_order d f c sites spins) ≡ length spins
unfolding swept_in_order
length-order d f c [] spins = refl
length-order d f c (i ∷ sites) spins = length-order d f c sites (visit d f c i spins) ∙ length-visit d f c i spins

-- a site of the other colour, or one that the list doesn't name
order-uncoloured : (d : Dynamics) (f : ℕ → ℕ) (c k : ℕ) (sites : List ℕ) (spins : List Bool) → colour d.size k ≢ c → spin (swept_in_order d f c sites spins) k ≡ spin spins k
unfolding swept_in_order
order-uncoloured d f c k [] spins other = refl
order-uncoloured d f c k (i ∷ sites) spins other = order-uncoloured d f c k sites (visit d f c i spins) other ∙ spin-uncoloured d f c i k spins other

order-unnamed : (d : Dynamics) (f : ℕ → ℕ) (c k : ℕ) (sites : List ℕ) (spins : List Bool) → count_by (λ j. j == k) sites ≡ 0 → spin (swept_in_order d f c sites spins) k ≡ spin spins k
unfolding swept_in_order
order-unnamed d f c k [] spins none = refl
order-unnamed d f c k (i ∷ sites) spins none =
    let more = named-more k i sites in
    elim (cases_eq i k) [
      | inl here ↦ let one = hit-here i k here in absurd (omega arith)
      | inr apart ↦
          let nothing = hit-apart i k apart in
          order-unnamed d f c k sites (visit d f c i spins) (omega arith) ∙ visit-elsewhere d f c i k spins (λ e. apart (sym e))
    ]

-- a site of the colour that the list names once
order-named : (d : Dynamics) (f : ℕ → ℕ) (c k : ℕ) (sites : List ℕ) (spins : List Bool) → IsLawfulSize d.size → length spins ≡ volume d.size → k < volume d.size → colour d.size k ≡ c
    → count_by (λ j. j == k) sites ≡ 1 → spin (swept_in_order d f c sites spins) k ≡ updated d f spins k
unfolding swept_in_order
order-named d f c k [] spins lawful sized within same once = absurd (let none : count_by (λ j. j == k) [] ≡ 0 = refl in omega arith)
order-named d f c k (i ∷ sites) spins lawful sized within same once =
    let more = named-more k i sites in
    elim (cases_eq i k) [
      | inl here ↦
          let one = hit-here i k here in
          let first : spin (visit d f c k spins) k ≡ updated d f spins k =
          ap (λ xs. spin xs k) (visit-here d f c k spins same) ∙ get_or-set_same spins k _ false (omega arith) in
          order-unnamed d f c k sites (visit d f c i spins) (omega arith) ∙ ap (λ n. spin (visit d f c n spins) k) here ∙ first
      | inr apart ↦
          let nothing = hit-apart i k apart in
          let long = length-visit d f c i spins in
          order-named d f c k sites (visit d f c i spins) lawful (omega arith) within same (omega arith)
          ∙ updated-same d f (visit d f c i spins) spins k (around d f c i k spins lawful within same (λ e. apart (sym e)))
    ]

-- ---- the half sweep

pub swept-site : (d : Dynamics) (f : ℕ → ℕ) (c : ℕ) (spins : List Bool) (i : ℕ) → IsLawfulSize d.size → length spins ≡ volume d.size → i < volume d.size
    → spin (half_swept d f c spins) i ≡ cond (colour d.size i == c) (updated d f spins i) (spin spins i)
swept-site d f c spins i lawful sized within = elim (cases_eq (colour d.size i) c) [
  | inl same ↦ spin-visited_updated d f c (volume d.size) i spins lawful sized (omega arith) same within ∙ ap (λ b. cond b (updated d f spins i) (spin spins i)) (sym (eq-eqb _ _ same))
  | inr other ↦ spin-visited_kept d f c (volume d.size) i spins (inl other) ∙ ap (λ b. cond b (updated d f spins i) (spin spins i)) (sym (ne_eqb _ _ other))
]

pub any-order : (d : Dynamics) (f : ℕ → ℕ) (c : ℕ) (sites : List ℕ) (spins : List Bool) → IsLawfulSize d.size → length spins ≡ volume d.size → NamesEachOnce d.size c sites
    → swept_in_order d f c sites spins ≡ half_swept d f c spins
any-order d f c sites spins lawful sized once =
    let long = length-order d f c sites spins in
    let also = length-visited d f c (volume d.size) spins in
    ext_get_or false (swept_in_order d f c sites spins) (half_swept d f c spins) (long ∙ sym also) (λ k below. elim (cases_eq (colour d.size k) c) [
      | inl same ↦
          let within : k < volume d.size = omega arith in
          order-named d f c k sites spins lawful sized within same (once k within same)
          ∙ sym (spin-visited_updated d f c (volume d.size) k spins lawful sized (omega arith) same within)
      | inr other ↦ order-uncoloured d f c k sites spins other ∙ sym (spin-visited_kept d f c (volume d.size) k spins (inl other))
    ])

pub own-draw : (d : Dynamics) (f g : ℕ → ℕ) (c : ℕ) (spins : List Bool) (i : ℕ) → IsLawfulSize d.size → length spins ≡ volume d.size → i < volume d.size
    → f i ≡ g i → spin (half_swept d f c spins) i ≡ spin (half_swept d g c spins) i
own-draw d f g c spins i lawful sized within same =
    swept-site d f c spins i lawful sized within
    ∙ ap (λ u. cond (colour d.size i == c) (new_spin d.rule d.thresholds (aligned d.size d.bonds spins i) (satisfied d.size d.bonds spins i) u (spin spins i)) (spin spins i)) same
    ∙ sym (swept-site d g c spins i lawful sized within)

-- ---- whose draws are their own

compact-draw : (l i : ℕ) → compact l i ≡ (colour l i * l + z_of l i) * half_plane l + place_in_plane l i
unfolding compact
compact-draw l i = omega arith

pub draws-apart : (l i j : ℕ) → IsLawfulSize l → i < volume l → j < volume l
    → colour l i * l + z_of l i ≡ colour l j * l + z_of l j → place_in_plane l i ≡ place_in_plane l j → i ≡ j
draws-apart l i j lawful within within_too list number =
    let place : compact l i ≡ compact l j = compact-draw l i ∙ ap (λ n. n * half_plane l + place_in_plane l i) list
    ∙ ap (λ n. (colour l j * l + z_of l j) * half_plane l + n) number ∙ sym (compact-draw l j) in
    sym (from_compact-compact l i lawful within) ∙ ap (from_compact l) place ∙ from_compact-compact l j lawful within_too
