-- A half sweep is the updates of the sites of its class.
use Rattle.std.proofs.Common.{inl, inr, ◌≡◌, ◌≢◌, ℕ, zero, suc, ◌/◌, ◌%◌, ◌^◌, ◌<◌, ◌≤◌, cond, ◌==◌, if◌then◌else◌, List, [], ◌∷◌, ◌++◌, get_or, set, map, refl, ap, sym, ◌∙◌, arith, zero-add, add-one}
use Rattle.std.specs.List.{filter}
use Rattle.std.proofs.lemmas.Bool.{cases_eq, eq-eqb, ne_eqb}
use Rattle.std.proofs.lemmas.List.Elements.{filter-append}
use Rattle.finite_chance.specs.Chains.{after}
use Rattle.spin_model.specs.Lattice.{volume, colour as class}
use Rattle.spin_model.specs.Steps.{steps, table}
use Rattle.spin_model.proofs.Tables.{table-more}
use Rattle.run_decisions.specs.Decisions.{sites_of}
use Rattle.run_decisions.proofs.Swept.{below-sites}
use Rattle.run_decisions.proofs.Places.{decided, decided-more}
use Rattle.potts_glass.specs.Potts.{Dynamics, State, step_of, new_colour, around, visit, site_draw, half_sweep}
use Rattle.potts_laws.specs.Equilibrium.{update_by, pair_of}
use Rattle.potts_laws.proofs.Balancing.{update-writes}

pub sites-next : (l c n : ℕ) → below-sites l c (suc n) ≡ below-sites l c n ++ cond (class l n == c) (n ∷ []) []
unfolding below-sites
sites-next l c n =
    ap (λ m. filter (λ i. class l i == c) (table (λ i. i) m)) (sym (add-one n))
    ∙ ap (filter (λ i. class l i == c)) (table-more (λ i. i) n)
    ∙ filter-append (λ i. class l i == c) (table (λ i. i) n) (n ∷ [])

written : Dynamics → List ℕ → ℕ → ℕ → ℕ → List ℕ
written d x i u v = set x i (new_colour d.thresholds (step_of u) v (around d.size d.bonds x i) (get_or x i 0))

visit-writes : (d : Dynamics) (f : ℕ → ℕ → ℕ) (c i : ℕ) (x : List ℕ) → class d.size i ≡ c → visit d f c i x ≡ written d x i (f i 0) (f i 1)
unfolding visit written
visit-writes d f c i x same = ap (λ b. if b then set x i (new_colour d.thresholds (step_of (f i 0)) (f i 1) (around d.size d.bonds x i) (get_or x i 0)) else x) (eq-eqb (class d.size i) c same)

visit-passes : (d : Dynamics) (f : ℕ → ℕ → ℕ) (c i : ℕ) (x : List ℕ) → class d.size i ≢ c → visit d f c i x ≡ x
unfolding visit
visit-passes d f c i x other = ap (λ b. if b then set x i (new_colour d.thresholds (step_of (f i 0)) (f i 1) (around d.size d.bonds x i) (get_or x i 0)) else x) (ne_eqb (class d.size i) c other)

pair-writes : (d : Dynamics) (f : ℕ → ℕ → ℕ) (i : ℕ) (x : List ℕ) → f i 1 < 2 ^ 32 → update_by d i (pair_of f i) x ≡ written d x i (f i 0) (f i 1)
unfolding written
pair-writes d f i x small =
    let one : pair_of f i / 2 ^ 32 ≡ f i 0 = omega arith in
    let other : pair_of f i % 2 ^ 32 ≡ f i 1 = omega arith in
    update-writes d x i (pair_of f i / 2 ^ 32) (pair_of f i % 2 ^ 32)
    ∙ ap (λ u. set x i (new_colour d.thresholds (step_of u) (pair_of f i % 2 ^ 32) (around d.size d.bonds x i) (get_or x i 0))) one
    ∙ ap (λ v. set x i (new_colour d.thresholds (step_of (f i 0)) v (around d.size d.bonds x i) (get_or x i 0))) other

half-updates : (d : Dynamics) (f : ℕ → ℕ → ℕ) (c n : ℕ) (x : List ℕ) → n ≤ volume d.size → ((i : ℕ) → i < volume d.size → f i 1 < 2 ^ 32)
    → decided (update_by d) (pair_of f) (below-sites d.size c n) x ≡ steps (visit d f c) 0 n x
unfolding below-sites steps table after
half-updates d f c zero x few small = refl
half-updates d f c (suc n) x few small =
    let now = steps (visit d f c) 0 n x in
    let go = decided (update_by d) (pair_of f) in
    let last = cond (class d.size n == c) (n ∷ []) [] in
    let one : go last now ≡ visit d f c n now = elim (cases_eq (class d.size n) c) [
      | inl same ↦
          ap (λ e. go (cond e (n ∷ []) []) now) (eq-eqb _ _ same)
          ∙ pair-writes d f n now (small n (omega arith))
          ∙ sym (visit-writes d f c n now same)
      | inr other ↦
          ap (λ e. go (cond e (n ∷ []) []) now) (ne_eqb _ _ other)
          ∙ sym (visit-passes d f c n now other)
    ] in
    ap (λ sites. go sites x) (sites-next d.size c n)
    ∙ decided-more (update_by d) (pair_of f) (below-sites d.size c n) last x
    ∙ ap (go last) (half-updates d f c n x (omega arith) small)
    ∙ one
    ∙ ap (λ k. visit d f c k now) (sym (zero-add n))

pub half-sweeps_are : (d : Dynamics) (c : ℕ) (s : State) → ((i : ℕ) → i < volume d.size → site_draw d.size s.words i 1 < 2 ^ 32)
    → (half_sweep d c s).colours ≡ after (update_by d) (sites_of d.size c) (map (pair_of (site_draw d.size s.words)) (sites_of d.size c)) s.colours
unfolding below-sites
half-sweeps_are d c s small = sym (half-updates d (site_draw d.size s.words) c (volume d.size) s.colours (omega arith) small)
