-- Draws by which heat bath makes the spins that are wanted.
use Rattle.std.proofs.Common.{inl, inr, ◌≡◌, ℕ, ◌-◌, ◌^◌, ◌<◌, ◌≤◌, Bool, true, false, cond, ◌==◌, List, length, get_or, refl, ap, ◌∙◌, arith}
use Rattle.std.specs.Prelude.{nat_lt}
use Rattle.std.proofs.lemmas.Bool.{cases_eq, lt-ltb, le-ltb, eq-eqb, ne_eqb}
use Rattle.std.proofs.lemmas.List.{ext_get_or}
use Rattle.std.proofs.lemmas.List.Sums.{count_by-le-length}
use Rattle.spin_model.specs.Lattice.{IsLawfulSize, volume, colour}
use Rattle.spin_model.specs.SiteRule.{HeatBath, new_spin}
use Rattle.scalar_rule.specs.Neighbours.{spin, aligned, satisfied, pull, neighbours}
use Rattle.scalar_rule.specs.Sweep.{Dynamics}
use Rattle.scalar_rule.proofs.HalfSweeps.{updated, length-visited}
use Rattle.model_laws.specs.Balance.{updated_by}
use Rattle.model_laws.specs.Order.{half_swept}
use Rattle.model_laws.specs.Reaching.{IsOpen, swept_by}
use Rattle.model_laws.proofs.DrawCounts.{update-spin}
use Rattle.model_laws.proofs.Ordering.{swept-site}

-- the least draw makes +1, the greatest -1
abbrev wanted : ℕ → Bool → ℕ
wanted all new = cond new 0 (all - 1)

wanted-below : (all : ℕ) (new : Bool) → 0 < all → wanted all new < all
wanted-below all true some = some
wanted-below all false some = omega arith

wanted-made : (all h : ℕ) (new : Bool) → 0 < h → h < all → nat_lt (wanted all new) h ≡ new
wanted-made all h true some not_all = lt-ltb 0 h some
wanted-made all h false some not_all = le-ltb (all - 1) h (omega arith)

updated-wanted : (all : ℕ) (d : Dynamics) (f : ℕ → ℕ) (spins : List Bool) (i : ℕ) (new : Bool) → d.rule ≡ HeatBath → f i ≡ wanted all new
    → 0 < get_or d.thresholds (aligned d.size d.bonds spins i) 0 → get_or d.thresholds (aligned d.size d.bonds spins i) 0 < all → updated d f spins i ≡ new
updated-wanted all d f spins i new heat draw some not_all =
    let a = aligned d.size d.bonds spins i in
    let k = satisfied d.size d.bonds spins i in
    ap (λ r. new_spin r d.thresholds a k (f i) (spin spins i)) heat ∙ ap (λ u. nat_lt u (get_or d.thresholds a 0)) draw ∙ wanted-made all (get_or d.thresholds a 0) new some not_all

one-site : (all : ℕ) (d : Dynamics) (spins : List Bool) (i : ℕ) (new : Bool) → d.rule ≡ HeatBath → i < length spins
    → 0 < get_or d.thresholds (aligned d.size d.bonds spins i) 0 → get_or d.thresholds (aligned d.size d.bonds spins i) 0 < all
    → (u : ℕ) × (u < all) × (spin (updated_by d spins i u) i ≡ new)
one-site all d spins i new heat within some not_all = (
  wanted all new,
  wanted-below all new (omega arith),
  update-spin d spins i (wanted all new) within ∙ updated-wanted all d (λ _. wanted all new) spins i new heat refl some not_all,
)

pub both-spins : (d : Dynamics) (spins : List Bool) (i : ℕ) (new : Bool) → d.rule ≡ HeatBath → i < length spins → IsOpen (get_or d.thresholds (aligned d.size d.bonds spins i) 0)
    → (u : ℕ) × (u < 2 ^ 32) × (spin (updated_by d spins i u) i ≡ new)
both-spins d spins i new heat within open_here = one-site (2 ^ 32) d spins i new heat within open_here.some open_here.not_all

-- ---- a whole sweep

pub aligned-few : (d : Dynamics) (spins : List Bool) (i : ℕ) → aligned d.size d.bonds spins i ≤ 6
unfolding aligned
aligned-few d spins i = count_by-le-length (pull d.bonds spins) (neighbours d.size i)

abbrev AllBetween : ℕ → List ℕ → Type 0
AllBetween all thresholds = (a : ℕ) → a ≤ 6 → (0 < get_or thresholds a 0) × (get_or thresholds a 0 < all)

half-wanted : (all : ℕ) (d : Dynamics) (f : ℕ → ℕ) (c : ℕ) (spins target : List Bool) (i : ℕ) → d.rule ≡ HeatBath → IsLawfulSize d.size → length spins ≡ volume d.size → i < volume d.size
    → ((k : ℕ) → f k ≡ wanted all (spin target k)) → AllBetween all d.thresholds
    → spin (half_swept d f c spins) i ≡ cond (colour d.size i == c) (spin target i) (spin spins i)
half-wanted all d f c spins target i heat lawful sized within draws between =
    let h = between (aligned d.size d.bonds spins i) (aligned-few d spins i) in
    swept-site d f c spins i lawful sized within
    ∙ ap (λ s. cond (colour d.size i == c) s (spin spins i)) (updated-wanted all d f spins i (spin target i) heat (draws i) h.0 h.1)

swept-wanted : (all : ℕ) (d : Dynamics) (f : ℕ → ℕ) (spins target : List Bool) → d.rule ≡ HeatBath → IsLawfulSize d.size → length spins ≡ volume d.size → length target ≡ volume d.size
    → ((k : ℕ) → f k ≡ wanted all (spin target k)) → AllBetween all d.thresholds → swept_by d f spins ≡ target
swept-wanted all d f spins target heat lawful sized sized_too draws between =
    let first = half_swept d f 0 spins in
    let long : length first ≡ length spins = length-visited d f 0 (volume d.size) spins in
    let longer : length (half_swept d f 1 first) ≡ length first = length-visited d f 1 (volume d.size) first in
    ext_get_or false (half_swept d f 1 first) target (omega arith) (λ i below.
    let within : i < volume d.size = omega arith in
    let second = half-wanted all d f 1 first target i heat lawful (omega arith) within draws between in
    let before = half-wanted all d f 0 spins target i heat lawful sized within draws between in
    elim (cases_eq (colour d.size i) 1) [
      | inl odd ↦ second ∙ ap (λ b. cond b (spin target i) (spin first i)) (eq-eqb _ _ odd)
      | inr not_odd ↦
          let even : colour d.size i ≡ 0 = omega arith in
          second ∙ ap (λ b. cond b (spin target i) (spin first i)) (ne_eqb _ _ not_odd) ∙ before ∙ ap (λ b. cond b (spin target i) (spin spins i)) (eq-eqb _ _ even)
    ])

pub every-configuration : (d : Dynamics) (spins target : List Bool) → d.rule ≡ HeatBath → IsLawfulSize d.size → length spins ≡ volume d.size → length target ≡ volume d.size
    → ((a : ℕ) → a ≤ 6 → IsOpen (get_or d.thresholds a 0))
    → (draw_at : ℕ → ℕ) × ((i : ℕ) → draw_at i < 2 ^ 32) × (swept_by d draw_at spins ≡ target)
every-configuration d spins target heat lawful sized sized_too open_all = (
  (λ k. wanted (2 ^ 32) (spin target k)),
  (λ i. wanted-below (2 ^ 32) (spin target i) (omega arith)),
  swept-wanted (2 ^ 32) d (λ k. wanted (2 ^ 32) (spin target k)) spins target heat lawful sized sized_too (λ k. refl) (λ a few. ((open_all a few).some, (open_all a few).not_all)),
)
