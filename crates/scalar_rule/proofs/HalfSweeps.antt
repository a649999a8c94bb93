-- A half sweep site by site: since no neighbour of a site has the site's colour, each site of the colour gets its new
-- spin from the spins as they were before the half sweep, and all others stay.
use Rattle.std.proofs.Common.{inl, inr, ◌≡◌, ◌⊎◌, ◌≢◌, ℕ, zero, suc, ◌<◌, ◌≤◌, Bool, true, false, cond, ◌==◌, List, length, set, refl, sym, ap, ◌∙◌, subst, arith, zero-add}
use Rattle.std.proofs.lemmas.Bool.{eqb-true, cases_eq}
use Rattle.std.proofs.lemmas.List.{get_or-set_same, get_or-set_other, length-set}
use Rattle.spin_model.specs.Couplings.{Bonds}
use Rattle.spin_model.specs.Lattice.{volume, colour, forward, backward, IsLawfulSize}
use Rattle.spin_model.specs.SiteRule.{new_spin}
use Rattle.spin_model.specs.Steps.{steps}
use Rattle.spin_model.proofs.Colours.{colour-forward, colour-backward, differs}
use Rattle.scalar_rule.specs.Neighbours.{spin, aligned, satisfied}
use Rattle.scalar_rule.specs.Sweep.{Dynamics, visit}

-- the new spin of site i from the spins as they are
abbrev pub updated : Dynamics → (ℕ → ℕ) → List Bool → ℕ → Bool
updated d draw_at spins i =
    new_spin d.rule d.thresholds (aligned d.size d.bonds spins i) (satisfied d.size d.bonds spins i)
    (draw_at i) (spin spins i)

-- two lists of spins that agree at the six neighbours of a site and at the site
pub record AgreeAround (l : ℕ) (xs ys : List Bool) (i : ℕ) : Type 0 where
  pub ahead_x : spin xs (forward l i 0) ≡ spin ys (forward l i 0)
  pub ahead_y : spin xs (forward l i 1) ≡ spin ys (forward l i 1)
  pub ahead_z : spin xs (forward l i 2) ≡ spin ys (forward l i 2)
  pub behind_x : spin xs (backward l i 0) ≡ spin ys (backward l i 0)
  pub behind_y : spin xs (backward l i 1) ≡ spin ys (backward l i 1)
  pub behind_z : spin xs (backward l i 2) ≡ spin ys (backward l i 2)
  pub here : spin xs i ≡ spin ys i

-- the site's counts and its new spin are then the same
pub aligned-same : (l : ℕ) (bonds : Bonds) (xs ys : List Bool) (i : ℕ) → AgreeAround l xs ys i → aligned l bonds xs i ≡ aligned l bonds ys i
unfolding aligned
aligned-same l bonds xs ys i a = rw (a.ahead_x, a.ahead_y, a.ahead_z, a.behind_x, a.behind_y, a.behind_z) refl

pub satisfied-same : (l : ℕ) (bonds : Bonds) (xs ys : List Bool) (i : ℕ) → AgreeAround l xs ys i → satisfied l bonds xs i ≡ satisfied l bonds ys i
unfolding satisfied
satisfied-same l bonds xs ys i a = rw (a.ahead_x, a.ahead_y, a.ahead_z, a.behind_x, a.behind_y, a.behind_z, a.here) refl

pub updated-same : (d : Dynamics) (draw_at : ℕ → ℕ) (xs ys : List Bool) (i : ℕ) → AgreeAround d.size xs ys i → updated d draw_at xs i ≡ updated d draw_at ys i
updated-same d draw_at xs ys i a = rw (aligned-same d.size d.bonds xs ys i a, satisfied-same d.size d.bonds xs ys i a, a.here) refl

-- a visit is a write at the site, or nothing
pub visit-here : (d : Dynamics) (draw_at : ℕ → ℕ) (c i : ℕ) (spins : List Bool) → colour d.size i ≡ c → visit d draw_at c i spins ≡ set spins i (updated d draw_at spins i)
unfolding visit
visit-here d draw_at c i spins same = rw same (grind arith)

pub visit-not : (d : Dynamics) (draw_at : ℕ → ℕ) (c i : ℕ) (spins : List Bool) → colour d.size i ≢ c → visit d draw_at c i spins ≡ spins
unfolding visit
visit-not d draw_at c i spins other = elim (colour d.size i == c) as (λ b. (colour d.size i == c) ≡ b → cond b (set spins i (updated d draw_at spins i)) spins ≡ spins) [
  | true ↦ λ yes. absurd (other (eqb-true _ _ yes))
  | false ↦ λ _. refl
] refl

-- the spins after the visits of the sites below n
abbrev visited : Dynamics → (ℕ → ℕ) → ℕ → ℕ → List Bool → List Bool
visited d draw_at c n spins = steps (visit d draw_at c) 0 n spins

visited-more : (d : Dynamics) (draw_at : ℕ → ℕ) (c n : ℕ) (spins : List Bool) → visited d draw_at c (suc n) spins ≡ visit d draw_at c n (visited d draw_at c n spins)
unfolding steps
visited-more d draw_at c n spins = ap (λ k. visit d draw_at c k (visited d draw_at c n spins)) (zero-add n)

-- what one visit does to the spin at site i
pub visit-elsewhere : (d : Dynamics) (draw_at : ℕ → ℕ) (c k i : ℕ) (spins : List Bool) → i ≢ k → spin (visit d draw_at c k spins) i ≡ spin spins i
visit-elsewhere d draw_at c k i spins apart = elim (cases_eq (colour d.size k) c) [
  | inl same ↦ ap (λ xs. spin xs i) (visit-here d draw_at c k spins same) ∙ get_or-set_other spins k i _ false apart
  | inr other ↦ ap (λ xs. spin xs i) (visit-not d draw_at c k spins other)
]

pub length-visited : (d : Dynamics) (draw_at : ℕ → ℕ) (c n : ℕ) (spins : List Bool) → length (visited d draw_at c n spins) ≡ length spins
unfolding steps
length-visited d draw_at c zero spins = refl
length-visited d draw_at c (suc n) spins = ap length (visited-more d draw_at c n spins) ∙ elim (cases_eq (colour d.size n) c) [
  | inl same ↦ ap length (visit-here d draw_at c n (visited d draw_at c n spins) same) ∙ length-set (visited d draw_at c n spins) n _ ∙ length-visited d draw_at c n spins
  | inr other ↦ ap length (visit-not d draw_at c n (visited d draw_at c n spins) other) ∙ length-visited d draw_at c n spins
]

-- a site of the other colour, or one that is still to come, is as before
pub spin-visited_kept : (d : Dynamics) (draw_at : ℕ → ℕ) (c n i : ℕ) (spins : List Bool) → (colour d.size i ≢ c) ⊎ (n ≤ i) → spin (visited d draw_at c n spins) i ≡ spin spins i
unfolding steps
spin-visited_kept d draw_at c zero i spins kept = refl
spin-visited_kept d draw_at c (suc n) i spins kept =
    let before = spin-visited_kept d draw_at c n i spins (elim kept [ inl other ↦ inl other | inr later ↦ inr (omega arith) ]) in
    ap (λ xs. spin xs i) (visited-more d draw_at c n spins) ∙ elim (cases_eq (colour d.size n) c) [
      | inl same ↦ visit-elsewhere d draw_at c n i (visited d draw_at c n spins) (λ here. elim kept [
        | inl other ↦ other (ap (colour d.size) here ∙ same)
        | inr later ↦ absurd (omega arith)
      ]) ∙ before
      | inr other ↦ ap (λ xs. spin xs i) (visit-not d draw_at c n (visited d draw_at c n spins) other) ∙ before
    ]

-- the neighbours of a site of the colour, and the site itself, are as before when it is visited
around-visited : (d : Dynamics) (draw_at : ℕ → ℕ) (c n : ℕ) (spins : List Bool) → IsLawfulSize d.size → n < volume d.size → colour d.size n ≡ c → AgreeAround d.size (visited d draw_at c n spins) spins n
around-visited d draw_at c n spins lawful within same =
    let ahead : (k : ℕ) → k < 3 → spin (visited d draw_at c n spins) (forward d.size n k) ≡ spin spins (forward d.size n k) =
    λ k direction. spin-visited_kept d draw_at c n (forward d.size n k) spins (inl (λ e. differs _ _ (colour-forward d.size n k lawful within) (e ∙ sym same))) in
    let behind : (k : ℕ) → k < 3 → spin (visited d draw_at c n spins) (backward d.size n k) ≡ spin spins (backward d.size n k) =
    λ k direction. spin-visited_kept d draw_at c n (backward d.size n k) spins (inl (λ e. differs _ _ (colour-backward d.size n k lawful within) (e ∙ sym same))) in
    record {
      ahead_x = ahead 0 (omega arith);
      ahead_y = ahead 1 (omega arith);
      ahead_z = ahead 2 (omega arith);
      behind_x = behind 0 (omega arith);
      behind_y = behind 1 (omega arith);
      behind_z = behind 2 (omega arith);
      here = spin-visited_kept d draw_at c n n spins (inr (omega arith));
    }

-- a site of the colour that was visited has its new spin, from the spins before the half sweep
pub spin-visited_updated : (d : Dynamics) (draw_at : ℕ → ℕ) (c n i : ℕ) (spins : List Bool) → IsLawfulSize d.size → length spins ≡ volume d.size → n ≤ volume d.size
    → colour d.size i ≡ c → i < n → spin (visited d draw_at c n spins) i ≡ updated d draw_at spins i
unfolding steps
spin-visited_updated d draw_at c zero i spins lawful sized within same earlier = absurd (omega arith)
spin-visited_updated d draw_at c (suc n) i spins lawful sized within same earlier =
    ap (λ xs. spin xs i) (visited-more d draw_at c n spins) ∙ elim (cases_eq i n) [
      | inl here ↦
          let at_n : colour d.size n ≡ c = ap (colour d.size) (sym here) ∙ same in
          let long = length-visited d draw_at c n spins in
          let wrote : spin (visit d draw_at c n (visited d draw_at c n spins)) n ≡ updated d draw_at (visited d draw_at c n spins) n =
          ap (λ xs. spin xs n) (visit-here d draw_at c n (visited d draw_at c n spins) at_n) ∙ get_or-set_same (visited d draw_at c n spins) n _ false (omega arith) in
          let from_old = updated-same d draw_at (visited d draw_at c n spins) spins n (around-visited d draw_at c n spins lawful (omega arith) at_n) in
          let P : ℕ → Type 0 = λ k. spin (visit d draw_at c n (visited d draw_at c n spins)) k ≡ updated d draw_at spins k in
          subst P (sym here) (wrote ∙ from_old)
      | inr apart ↦ visit-elsewhere d draw_at c n i (visited d draw_at c n spins) apart ∙ spin-visited_updated d draw_at c n i spins lawful sized (omega arith) same (omega arith)
    ]
